use Rattle.std.proofs.Common.{◌≡◌, ◌+◌, take}
use Rattle.ref_index.specs.declared.pair.Pair.{Pair}
use Rattle.ref_index.specs.Bag.{count, times}
use Rattle.dataset.specs.Exact.{pairs_by}
use Rattle.dataset.specs.Sides.{side}
use Rattle.dataset.proofs.pairs.take_pairs.Given as goal

abbrev pub invariant-loop-i : goal.invariant-loop-i
invariant-loop-i l = (p : Pair) → times p (pairs_by (side l.forth) l.edits) + count l.index p ≡ times p (pairs_by (side l.forth) (take l.i l.edits)) + count l.initial.index p
