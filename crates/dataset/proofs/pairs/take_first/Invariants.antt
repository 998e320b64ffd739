use Rattle.std.proofs.Common.{◌≡◌, ◌+◌, take}
use Rattle.osm_base.specs.Content.{refs_of}
use Rattle.ref_index.specs.declared.pair.Pair.{Pair}
use Rattle.ref_index.specs.Bag.{count, times}
use Rattle.dataset.specs.Exact.{pairs_with}
use Rattle.dataset.proofs.pairs.take_first.Given as goal

abbrev pub invariant-loop-i : goal.invariant-loop-i
invariant-loop-i l = (p : Pair) → times p (take l.i (pairs_with l.user (refs_of l.content))) + count l.index p ≡ count l.initial.index p
