use Rattle.std.proofs.Common.{length, map, take}
use Rattle.edit_history.specs.Trail.{KeepNothing}
use Rattle.edit_steps.specs.Dealt.{AreDealt}
use Rattle.edit_steps.proofs.boxes.deal.Given as goal

abbrev pub invariant-loop-tool : goal.invariant-loop-tool
invariant-loop-tool g l = record {
  own_dones : KeepNothing (map (λ b. (goal.Tool-dyn g (b.vtable, b.value)).done b.value) l.own.items);
  own_undones : KeepNothing (map (λ b. (goal.Tool-dyn g (b.vtable, b.value)).undone b.value) l.own.items);
  other_dones : KeepNothing (map (λ b. (goal.Tool-dyn g (b.vtable, b.value)).done b.value) l.others.items);
  other_undones : KeepNothing (map (λ b. (goal.Tool-dyn g (b.vtable, b.value)).undone b.value) l.others.items);
  dealt : AreDealt (take (length l.yielded) (map (λ b. (goal.Tool-dyn g (b.vtable, b.value)).kind b.value) l.fn.tools.items)) (map (λ b. (goal.Tool-dyn g (b.vtable, b.value)).kind b.value) l.own.items) (map (λ b. (goal.Tool-dyn g (b.vtable, b.value)).kind b.value) l.others.items);
}
