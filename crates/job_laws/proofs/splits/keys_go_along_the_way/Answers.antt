use Rattle.job_laws.proofs.SplitAlong.{pieces_stay, along, new_along}
use Rattle.job_laws.proofs.splits.keys_go_along_the_way.Goals as goal

pub returns : goal.returns
returns c = record { pieces = pieces_stay; keys = along; new = new_along }
