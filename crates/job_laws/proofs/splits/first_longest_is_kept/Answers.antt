use Rattle.job_laws.proofs.SplitLongest.{kept_is_longest}
use Rattle.job_laws.proofs.splits.first_longest_is_kept.Goals as goal

pub returns : goal.returns
returns c = kept_is_longest
