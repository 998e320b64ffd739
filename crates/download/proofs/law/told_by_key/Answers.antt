use Rattle.download.proofs.Found.{told_at_key}
use Rattle.download.proofs.law.told_by_key.Goals as goal

pub returns : goal.returns
returns c = told_at_key
