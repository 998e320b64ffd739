use Rattle.edit_steps.proofs.Settles.{resume_refused}
use Rattle.edit_steps.proofs.settling.resumed.Goals as goal

pub returns-in_ok-why-in-Err-clause-answer : goal.returns-in_ok-why-in-Err-clause-answer
returns-in_ok-why-in-Err-clause-answer c = resume_refused c.in-Err.why _ _ c.in-Err.ensures.value c.in_ok-why-in-Err.ensures.memory c.in_ok-why-in-Err.ensures.refusal
