-- The steps of an editor.
use Rattle.std.proofs.Common.{ℕ}
use Rattle.tool_api.specs.declared.job.Job.{Job}
use Rattle.edit_history.specs.declared.edit_step.EditStep.{EditStep}
use Rattle.edit_history.specs.declared.edit_step.EditStep.TheVariants.{Run, Settle}
use Rattle.edit_history.specs.Machine.{State}
use Rattle.edit_history.specs.Steps.{edited, job_move}
use Rattle.editor_laws.specs.Editing.{EachTable}
use Rattle.editor_laws.proofs.SeenSteps.{edited_tables, job_tables, Makes}
use Rattle.editor_laws.specs.Texts.{BringsTexts, IsTextTable, StepBringsTexts}
use Rattle.editor_laws.proofs.TextJobs.{job_keeps}

-- a job
pub job_texts : (limit : ℕ) (j : Job) (s : State) → BringsTexts j → EachTable IsTextTable s → EachTable IsTextTable (job_move limit j s).state
job_texts limit j s i h = job_tables IsTextTable limit j s (job_keeps s.now h.now j limit i) h

made_texts : (limit : ℕ) (step : EditStep) (s : State) → StepBringsTexts step → IsTextTable s.now → Makes IsTextTable limit step s
made_texts limit (Run job) s i h = job_keeps s.now h job.now limit i
made_texts limit (Settle patch) s i h = absurd i
made_texts limit step s i h = tt

pub steps_keep : (limit : ℕ) (step : EditStep) (s : State) → StepBringsTexts step → EachTable IsTextTable s → EachTable IsTextTable (edited limit step s).state
steps_keep limit step s i h = edited_tables IsTextTable limit step s (made_texts limit step s i h.now) h
