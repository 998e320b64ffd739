-- Equality of the values of the map, as tests: one for each type, by its structure.
use Rattle.std.specs.Prelude.{ℕ, ℤ, ◌==◌, ◌&&◌, Bool, true, false, List, Option, Some, None}
use Rattle.std.specs.Ordering.{int_eq}
use Rattle.std.specs.Cmp.Lexicographic.{pointwise}
use Rattle.osm_base.specs.Rank.{is_key}
use Rattle.osm_base.specs.Tags.{Pair}
use Rattle.osm_base.specs.declared.coord.Coord.{Coord}
use Rattle.osm_base.specs.declared.meta.Stamp.{Stamp}
use Rattle.osm_base.specs.declared.meta.Meta.{Meta}
use Rattle.osm_base.specs.declared.members.Member.{Member}
use Rattle.osm_base.specs.declared.content.Content.{Content}
use Rattle.osm_base.specs.declared.content.Content.TheVariants.{Node, Way, Relation}

-- byte for byte
abbrev pub same_text : List ℕ → List ℕ → Bool
same_text = pointwise (λ a b. a == b)

-- the key and the value
abbrev pub same_tag : Pair → Pair → Bool
same_tag a b = same_text a.0 b.0 && same_text a.1 b.1

-- tag for tag
abbrev pub same_tags : List Pair → List Pair → Bool
same_tags = pointwise same_tag

-- node for node
abbrev pub same_refs : List ℤ → List ℤ → Bool
same_refs = pointwise int_eq

-- the object and its role
abbrev pub same_member : Member → Member → Bool
same_member a b = is_key a.key b.key && same_text a.role b.role

-- member for member
abbrev pub same_members : List Member → List Member → Bool
same_members = pointwise same_member

-- the place
abbrev pub same_coord : Coord → Coord → Bool
same_coord a b = int_eq a.lon b.lon && int_eq a.lat b.lat

-- the kind, the tags, and the place, the references or the members
abbrev pub same_content : Content → Content → Bool
same_content (Node tags at) (Node others there) = same_tags tags others && same_coord at there
same_content (Way tags refs) (Way others theirs) = same_tags tags others && same_refs refs theirs
same_content (Relation tags members) (Relation others theirs) = same_tags tags others && same_members members theirs
same_content a b = false

-- the second
abbrev pub same_stamp : Stamp → Stamp → Bool
same_stamp a b = a.year == b.year && a.month == b.month && a.day == b.day && a.hour == b.hour && a.minute == b.minute && a.second == b.second

-- both or neither known, and the same second
abbrev pub same_time : Option Stamp → Option Stamp → Bool
same_time None None = true
same_time (Some a) (Some b) = same_stamp a b
same_time a b = false

-- the changeset, the time and the user
abbrev pub same_meta : Meta → Meta → Bool
same_meta a b = a.changeset == b.changeset && same_time a.time b.time && a.uid == b.uid && same_text a.user b.user
