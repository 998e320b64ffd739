use Rattle.job_laws.proofs.SplitBetween.{lie_between, no_other}
use Rattle.job_laws.proofs.splits.pieces_lie_between_cuts.Goals as goal

pub returns : goal.returns
returns c = record { some = lie_between; no_other = no_other }
