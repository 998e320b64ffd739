use Rattle.editor_laws.proofs.SeenJobs.{job_keeps}
use Rattle.editor_laws.proofs.bases.jobs_keep_bases.Goals as goal

pub returns : goal.returns
returns c = λ j is t limit. job_keeps j t limit is
