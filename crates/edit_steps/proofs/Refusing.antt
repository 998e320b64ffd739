-- Why a plan is refused.
use Rattle.std.proofs.Common.{◌≡◌, ◌≢◌, List, Result, Err, refl, sym, ap, ◌∙◌}
use Rattle.upload_order.specs.declared.change.Change.{Change}
use Rattle.upload_order.specs.declared.refusal.PlanRefusal.{PlanRefusal}
use Rattle.upload_order.specs.declared.refusal.PlanRefusal.TheVariants as plan
use Rattle.upload_order.specs.Refused.{Gives}
use Rattle.edit_script.specs.declared.reply.StepRefusal.{StepRefusal}
use Rattle.edit_steps.specs.Planned.{plan_refused, planned}

gives_err : (why : PlanRefusal) (answer : Result (List Change) PlanRefusal) → Gives (Err why) answer → why ≢ plan.Memory → answer ≡ Err why
gives_err plan.Memory answer is found = absurd (found refl)
gives_err why answer is found = is

-- a refused plan
pub planned_refused : (why : PlanRefusal) (refusal : StepRefusal) (answer : Result (List Change) PlanRefusal) → Gives (Err why) answer → why ≢ plan.Memory → refusal ≡ plan_refused why → Err refusal ≡ planned answer
planned_refused why refusal answer is found same = ap Err same ∙ sym (ap planned (gives_err why answer is found))
