use Rattle.job_laws.proofs.MergeContents.{conflicts_by_contents}
use Rattle.job_laws.proofs.merges.conflicts_of_merges.Goals as goal

pub returns : goal.returns
returns c = λ t m k sound told. conflicts_by_contents t m sound told k
