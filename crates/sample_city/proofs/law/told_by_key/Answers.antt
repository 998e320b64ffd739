use Rattle.sample_city.proofs.Found.{told_at_key}
use Rattle.sample_city.proofs.law.told_by_key.Goals as goal

pub returns : goal.returns
returns c = told_at_key
