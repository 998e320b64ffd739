use Rattle.std.proofs.Common.{take}
use Rattle.dataset.proofs.ToldIndex.{AreIndexed}
use Rattle.dataset.proofs.pairs.add_objects.Given as goal

abbrev pub invariant-loop-key : goal.invariant-loop-key
invariant-loop-key l = AreIndexed l.told.told (take l.key-index l.keys) l.index
