use Rattle.editor_laws.proofs.KeptOwns.{job_owns}
use Rattle.editor_laws.proofs.edits.jobs_leave_own.Goals as goal

pub returns : goal.returns
returns c = λ j t limit k sound n free e is. job_owns t k e is sound j limit n free
