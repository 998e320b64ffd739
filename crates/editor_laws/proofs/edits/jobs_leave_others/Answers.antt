use Rattle.editor_laws.proofs.KeptJobs.{job_leaves}
use Rattle.editor_laws.proofs.edits.jobs_leave_others.Goals as goal

pub returns : goal.returns
returns c = λ j t limit k sound n no e is. job_leaves t k e is sound j limit n no
