use Rattle.std.proofs.Common.{◌≡◌, drop}
use Rattle.osm_outside.specs.Lines.{TookLines}
use Rattle.edit_script.specs.Order.{IsOrderly}
use Rattle.edit_history.specs.Shown.{shown, Valid, verbs_of}
use Rattle.edit_steps.specs.Groups.{is_open}
use Rattle.edit_steps.proofs.Ran.{StepsGo}
use Rattle.edit_steps.proofs.Steps.{NoneMissing}
use Rattle.edit_steps.proofs.run.run_steps.Given as goal

abbrev pub invariant-loop-step : goal.invariant-loop-step
invariant-loop-step g l = record {
  told : g.S.Shelf.told l.shelf ≡ g.S.Shelf.told l.fn.shelf;
  read_quiet : g.S.Shelf.faults l.shelf ≡ g.S.Shelf.faults l.fn.shelf;
  write_quiet : g.K.Sink.faults l.out ≡ g.K.Sink.faults l.fn.out;
  lines : TookLines (g.K.Sink.taken l.fn.out) → TookLines (g.K.Sink.taken l.out);
  valid : Valid (λ b. (goal.Tool-dyn g (b.vtable, b.value)).done b.value) (λ b. (goal.Tool-dyn g (b.vtable, b.value)).undone b.value) l.history;
  orderly : IsOrderly (is_open (shown (λ b. (goal.Tool-dyn g (b.vtable, b.value)).done b.value) (λ b. (goal.Tool-dyn g (b.vtable, b.value)).undone b.value) l.history).group) (drop l.step-index l.steps);
  there : NoneMissing (verbs_of (λ b. (goal.Tool-dyn g (b.vtable, b.value)).kind b.value) l.history) (drop l.step-index l.steps);
  goes : StepsGo l.limits (g.S.Shelf.told l.fn.shelf) (g.K.Sink.taken l.fn.out) (g.S.Shelf.noted l.fn.shelf) (g.K.Sink.taken l.out) (g.S.Shelf.noted l.shelf) l.step-index l.steps
      (shown (λ b. (goal.Tool-dyn g (b.vtable, b.value)).done b.value) (λ b. (goal.Tool-dyn g (b.vtable, b.value)).undone b.value) l.history);
}
