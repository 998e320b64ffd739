use Rattle.std.proofs.Common.{◌≡◌, drop, map}
use Rattle.edit_steps.specs.Needs.{missing_from, missing_verb}
use Rattle.edit_steps.proofs.needs.missing_verb.Given as goal

abbrev pub invariant-loop-step : goal.invariant-loop-step
invariant-loop-step g l = missing_from (map (λ b. (goal.Tool-dyn g (b.vtable, b.value)).kind b.value) l.tools.items) l.editor (drop l.step-index l.steps) ≡ missing_verb (map (λ b. (goal.Tool-dyn g (b.vtable, b.value)).kind b.value) l.tools.items) l.steps
