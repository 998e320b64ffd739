use Rattle.editor_laws.proofs.HeardSteps.{job_hears}
use Rattle.editor_laws.proofs.edits.downloads_hear_others.Goals as goal

pub returns : goal.returns
returns c = job_hears
