use Rattle.edit_steps.proofs.Settles.{confirm_refused}
use Rattle.edit_steps.proofs.settling.confirmed.Goals as goal

pub returns-in_ok-why-in-Err-clause-answer : goal.returns-in_ok-why-in-Err-clause-answer
returns-in_ok-why-in-Err-clause-answer c = confirm_refused c.in-Err.why _ _ c.in-Err.ensures.value c.in_ok-why-in-Err.ensures.memory c.in_ok-why-in-Err.ensures.refusal
