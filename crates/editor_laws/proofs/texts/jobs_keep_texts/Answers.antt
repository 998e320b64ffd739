use Rattle.editor_laws.proofs.TextJobs.{job_keeps}
use Rattle.editor_laws.proofs.texts.jobs_keep_texts.Goals as goal

pub returns : goal.returns
returns c = λ j i t limit h. job_keeps t h j limit i
