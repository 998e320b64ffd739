use Rattle.download.proofs.Read.{read_tellable}
use Rattle.download.proofs.law.what_is_read_may_be_told.Goals as goal

pub returns : goal.returns
returns c = read_tellable
