-- Worked examples, on which the definitions compute.
use Rattle.std.proofs.Common.{◌≡◌, ℕ, ℤ, pos, negsuc, true, false, List, [], ◌∷◌, Some, None, refl}
use Rattle.std.specs.Prelude.{codes}
use Rattle.osm_base.specs.Meta.{empty_meta}
use Rattle.osm_base.specs.Tags.{Pair}
use Rattle.osm_base.specs.OnMap.{is_on_map}
use Rattle.osm_base.specs.declared.key.Key.{Key}
use Rattle.osm_base.specs.declared.key.Kind.TheVariants as kind
use Rattle.osm_base.specs.declared.area.Area.{Area}
use Rattle.osm_base.specs.declared.coord.Coord.{Coord}
use Rattle.osm_base.specs.declared.members.Member.{Member}
use Rattle.osm_base.specs.declared.content.Content.{Content}
use Rattle.osm_base.specs.declared.content.Content.TheVariants as content
use Rattle.osm_table.specs.declared.told.Told.TheVariants.{Mentioned, Gone}
use Rattle.opl_line.specs.declared.object.OplObject.{OplObject}
use Rattle.opl_file.specs.Objects.{keys_of}
use Rattle.download.specs.Filter.{in_box, has_tags, kept, filtered_by}

abbrev n : ℕ → Key
n id = record { kind = kind.Node; id = pos id }

abbrev w : ℕ → Key
w id = record { kind = kind.Way; id = pos id }

abbrev r : ℕ → Key
r id = record { kind = kind.Relation; id = pos id }

abbrev at : (lon lat : ℤ) → is_on_map lon lat ≡ true → Coord
at lon lat on_map = record { lon = lon; lat = lat; on_map = on_map }

abbrev live : Key → Content → OplObject
live key content = record { key = key; version = 1; side = Some content; meta = empty_meta }

abbrev gone : Key → OplObject
gone key = record { key = key; version = 2; side = None; meta = empty_meta }

abbrev member : Key → Member
member key = record { key = key; role = [] }

abbrev tag : List ℕ → List ℕ → Pair
tag key value = (key, value)

-- the box from -1 to 10 degrees both ways
abbrev box : Area
box = record { west = negsuc 9999999; south = negsuc 9999999; east = pos 100000000; north = pos 100000000 }

-- The edges belong to the box, and what is a step beyond them doesn't.
edges : (in_box (at (negsuc 9999999) (negsuc 9999999) refl) box ≡ true) × (in_box (at (pos 100000000) (pos 100000000) refl) box ≡ true)
    × (in_box (at (negsuc 10000000) (pos 0) refl) box ≡ false) × (in_box (at (pos 0) (pos 100000001) refl) box ≡ false)
edges = (refl, refl, refl, refl)

-- What is wanted of a tag.
abbrev path : Content
path = content.Way (tag (codes "highway") (codes "path") ∷ tag (codes "name") [] ∷ []) []

wanted_tags : (has_tags path (tag (codes "highway") (codes "path") ∷ []) ≡ true) × (has_tags path (tag (codes "highway") (codes "*") ∷ []) ≡ true)
    × (has_tags path (tag (codes "highway") [] ∷ []) ≡ false) × (has_tags path (tag (codes "name") [] ∷ []) ≡ true) × (has_tags path (tag (codes "name") (codes "*") ∷ []) ≡ true)
    × (has_tags path (tag (codes "ref") (codes "*") ∷ []) ≡ false) × (has_tags path (tag (codes "highway") (codes "*") ∷ tag (codes "ref") (codes "*") ∷ []) ≡ false)
wanted_tags = (refl, refl, refl, refl, refl, refl, refl)

-- n1 and n2 lie in the box, n2 with a tag, n3 and n4 don't; w5 Nn1,n3; r7 Mw5,r9 and r8 Mr7 and r9 Mr8; n6 is deleted.
abbrev file : List OplObject
file =
    live (n 1) (content.Node [] (at (pos 0) (pos 0) refl))
    ∷ live (n 2) (content.Node (tag (codes "amenity") (codes "bench") ∷ []) (at (pos 50000000) (pos 50000000) refl))
    ∷ live (n 3) (content.Node [] (at (pos 500000000) (pos 500000000) refl))
    ∷ live (n 4) (content.Node [] (at (pos 600000000) (pos 600000000) refl))
    ∷ gone (n 6)
    ∷ live (w 5) (content.Way (tag (codes "highway") (codes "path") ∷ []) (pos 1 ∷ pos 3 ∷ []))
    ∷ live (r 7) (content.Relation [] (member (w 5) ∷ member (r 9) ∷ []))
    ∷ live (r 8) (content.Relation [] (member (r 7) ∷ []))
    ∷ live (r 9) (content.Relation [] (member (r 8) ∷ []))
    ∷ []

by_box : keys_of (kept file (Some box) []) ≡ n 1 ∷ n 2 ∷ n 3 ∷ n 6 ∷ w 5 ∷ r 7 ∷ r 8 ∷ []
by_box = refl

by_box_and_tags : keys_of (kept file (Some box) (tag (codes "highway") (codes "*") ∷ [])) ≡ n 1 ∷ n 3 ∷ n 6 ∷ w 5 ∷ r 7 ∷ r 8 ∷ []
by_box_and_tags = refl

-- Without a box all nodes and ways are asked for their tags.
by_tags : keys_of (kept file None (tag (codes "amenity") (codes "bench") ∷ [])) ≡ n 2 ∷ n 6 ∷ []
by_tags = refl

whole : kept file None [] ≡ file
whole = refl

-- Told is the deleted node outside the box, mentioned the relation that isn't kept, and nothing of n4.
told : (filtered_by file (Some box) [] (n 6) ≡ Some (Gone 2 empty_meta)) × (filtered_by file (Some box) [] (r 9) ≡ Some Mentioned) × (filtered_by file (Some box) [] (n 4) ≡ None)
told = (refl, refl, refl)
