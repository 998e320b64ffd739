use Rattle.std.proofs.Common.{◌≡◌, drop, length}
use Rattle.download.specs.Tell.{all_told, AreTellable}
use Rattle.download.proofs.telling.tell_batch.Given as goal

abbrev pub invariant-loop-object : goal.invariant-loop-object
invariant-loop-object l = record {
  tellable : AreTellable (drop (length l.yielded) l.fn.objects.items);
  left : all_told l.told (drop (length l.yielded) l.fn.objects.items) ≡ all_told l.fn.told l.fn.objects.items;
}
