use Rattle.editor_laws.proofs.Invented.{job_invents, merged_invents}
use Rattle.editor_laws.proofs.edits.jobs_invent_nothing.Goals as goal

pub returns-clause-jobs : goal.returns-clause-jobs
returns-clause-jobs c = job_invents

pub returns-clause-merges : goal.returns-clause-merges
returns-clause-merges c = merged_invents
