use Rattle.std.proofs.Common.{◌≡◌, ◌^◌, ◌<◌, ◌++◌, length}
use Rattle.osm_base.specs.Coord.{places_of}
use Rattle.osm_base.specs.Extends.{Extends}
use Rattle.osm_base.proofs.coord_text.write_places.Given as goal

abbrev pub invariant-loop-left : goal.invariant-loop-left
invariant-loop-left l = record {
  below : l.left < 10 ^ 7;
  places : l.out.items ++ places_of 7 l.left ≡ l.initial.out.items ++ places_of 7 l.part;
  kept : Extends l.initial.out.items l.out.items;
}

abbrev pub decreases-loop-left : goal.decreases-loop-left
decreases-loop-left l = length (places_of 7 l.left)
