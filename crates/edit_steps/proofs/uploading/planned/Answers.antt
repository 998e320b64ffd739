use Rattle.edit_steps.proofs.Refusing.{planned_refused}
use Rattle.edit_steps.proofs.uploading.planned.Goals as goal

pub returns-in_ok-why-in-Err : goal.returns-in_ok-why-in-Err
returns-in_ok-why-in-Err c = planned_refused c.in-Err.why _ _ c.in-Err.ensures.value c.in_ok-why-in-Err.ensures.memory c.in_ok-why-in-Err.ensures.refusal
