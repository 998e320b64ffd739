use Rattle.std.proofs.Common.{◌≡◌, drop, length}
use Rattle.opl_file.specs.Objects.{objects_in}
use Rattle.download.specs.Tell.{all_told, AreTellable}
use Rattle.download.proofs.telling.tell_all.Given as goal

abbrev pub invariant-loop-batch : goal.invariant-loop-batch
invariant-loop-batch l = record {
  tellable : AreTellable (objects_in (drop (length l.yielded) l.fn.batches.items));
  left : all_told l.told (objects_in (drop (length l.yielded) l.fn.batches.items)) ≡ all_told l.fn.told (objects_in l.fn.batches.items);
}
