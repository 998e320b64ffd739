use Rattle.editor_laws.proofs.KeptRuns.{step_keeps, steps_keep}
use Rattle.editor_laws.proofs.edits.runs_keep_edits.Goals as goal

pub returns-clause-step : goal.returns-clause-step
returns-clause-step c = step_keeps

pub returns-clause-run : goal.returns-clause-run
returns-clause-run c = steps_keep
