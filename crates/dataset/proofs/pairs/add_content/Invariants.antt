use Rattle.std.proofs.Common.{◌≡◌, ◌+◌, take}
use Rattle.osm_base.specs.Content.{refs_of}
use Rattle.ref_index.specs.declared.pair.Pair.{Pair}
use Rattle.ref_index.specs.Bag.{count, times}
use Rattle.dataset.specs.Exact.{pairs_with}
use Rattle.dataset.proofs.pairs.add_content.Given as goal

abbrev pub invariant-loop-i : goal.invariant-loop-i
invariant-loop-i l = (p : Pair) → count l.index p ≡ times p (take l.i (pairs_with l.user (refs_of l.content))) + count l.initial.index p
