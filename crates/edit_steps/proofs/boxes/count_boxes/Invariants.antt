use Rattle.std.proofs.Common.{◌≡◌, ◌≤◌, map, take}
use Rattle.edit_steps.specs.Needs.{count_verb}
use Rattle.edit_steps.proofs.boxes.count_boxes.Given as goal

abbrev pub invariant-loop-i : goal.invariant-loop-i
invariant-loop-i g l = record {
  counted : l.count ≡ count_verb (take l.i (map (λ b. (goal.Tool-dyn g (b.vtable, b.value)).kind b.value) l.tools.items)) l.verb;
  most : l.count ≤ l.i;
}
