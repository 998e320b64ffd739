use Rattle.std.proofs.Common.{◌≡◌, ◌||◌, length, take}
use Rattle.std.specs.List.{list_any}
use Rattle.osm_base.specs.Content.{refs_of}
use Rattle.ref_index.specs.declared.pair.Pair.{Pair}
use Rattle.ref_index.specs.Bag.{is_pair}
use Rattle.dataset.specs.Exact.{pairs_with}
use Rattle.dataset.specs.ToldIndex.{is_kept}
use Rattle.dataset.proofs.told_index.put_content.Given as goal

abbrev pub invariant-loop-i : goal.invariant-loop-i
invariant-loop-i l =
    (length l.lists.users.items ≡ length l.told.order)
    × ((p : Pair) → is_kept l.told l.lists.users.items l.lists.others p ≡ (list_any (is_pair p) (take l.i (pairs_with l.user (refs_of l.content))) || is_kept l.told l.initial.lists.users.items l.initial.lists.others p))
