-- What small cities tell.
use Rattle.std.proofs.Common.{◌≡◌, ◌∷◌, [], None, Some, length, pos, negsuc, refl, codes}
use Rattle.std.specs.Fmt.{digits}
use Rattle.osm_base.specs.Place.{place_at}
use Rattle.osm_base.specs.declared.key.Kind.TheVariants as kind
use Rattle.osm_base.specs.declared.content.Content.TheVariants.{Way}
use Rattle.sample_city.specs.City.{as_told, junction, numbered, objects, place_of, street, ten_from, told_by}

eleven : length (objects 1) ≡ 11
eleven = refl

third_street : street 3 ≡ Way ((codes "highway", codes "residential") ∷ (codes "name", codes "Street 3") ∷ []) (pos 19 ∷ pos 20 ∷ pos 21 ∷ pos 22 ∷ pos 23 ∷ pos 24 ∷ pos 25 ∷ pos 26 ∷ pos 27 ∷ pos 28 ∷ [])
unfolding ten_from digits
third_street = refl

last_node : told_by 1 (numbered kind.Node 10) ≡ Some (as_told (junction 10))
last_node = refl

no_more_nodes : told_by 1 (numbered kind.Node 11) ≡ None
no_more_nodes = refl

no_new_node : told_by 1 (record { kind = kind.Node; id = negsuc 0 }) ≡ None
no_new_node = refl

no_route_yet : told_by 9 (numbered kind.Relation 1) ≡ None
no_route_yet = refl

second_row : (place_of 1002).lat ≡ pos 10000
unfolding place_at
second_row = refl
