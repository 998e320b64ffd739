-- The written form of an object: its fields, each with the value that it has.
use Rattle.std.specs.Prelude.{◌≡◌, ◌==◌, not, ℕ, ℤ, Bool, true, false, List, [], ◌∷◌, ◌++◌, Option, Some, None, is_some}
use Rattle.std.specs.Fmt.{decimal, signed_decimal}
use Rattle.std.specs.List.{flat_map, list_all}
use Rattle.opl_line.specs.declared.object.OplObject.{OplObject}
use Rattle.osm_base.specs.Number.{key_written}
use Rattle.osm_base.specs.Coord.{coord_written}
use Rattle.osm_base.specs.Tags.{Pair}
use Rattle.osm_base.specs.declared.key.Kind.{Kind}
use Rattle.osm_base.specs.declared.key.Kind.TheVariants.{Node, Way, Relation}
use Rattle.osm_base.specs.declared.key.Key.{Key}
use Rattle.osm_base.specs.declared.meta.Meta.{Meta}
use Rattle.osm_base.specs.declared.members.Member.{Member}
use Rattle.osm_base.specs.declared.content.Content.{Content}
use Rattle.osm_base.specs.declared.content.Content.TheVariants as content
use Rattle.opl_text.specs.Text.{escaped}
use Rattle.opl_text.specs.Time.{time_written}

-- each piece behind a space
abbrev pub spaced : List (List ℕ) → List ℕ
spaced [] = []
spaced (piece ∷ pieces) = 32 ∷ (piece ++ spaced pieces)

-- items with commas between them
abbrev pub listed : {A : Type 0} → (A → List ℕ) → List A → List ℕ
listed form [] = []
listed form (item ∷ items) = form item ++ flat_map (λ i. 44 ∷ form i) items

abbrev pub tag_written : Pair → List ℕ
tag_written tag = escaped tag.0 ++ 61 ∷ escaped tag.1

abbrev pub ref_written : ℤ → List ℕ
ref_written id = 110 ∷ signed_decimal id

abbrev pub member_written : Member → List ℕ
member_written m = key_written m.key ++ 64 ∷ escaped m.role

abbrev pub sight : Bool → ℕ
sight true = 86
sight false = 68

abbrev pub front_pieces : ℕ → Bool → ℕ → List (List ℕ)
front_pieces version visible changeset = (118 ∷ decimal version) ∷ (100 ∷ sight visible ∷ []) ∷ (99 ∷ decimal changeset) ∷ []

abbrev pub back_pieces : Meta → List (List ℕ)
back_pieces meta = (116 ∷ time_written meta.time) ∷ (105 ∷ decimal meta.uid) ∷ (117 ∷ escaped meta.user) ∷ []

abbrev pub content_pieces : Content → List (List ℕ)
content_pieces (content.Node tags at) = (84 ∷ listed tag_written tags) ∷ (120 ∷ coord_written at.lon) ∷ (121 ∷ coord_written at.lat) ∷ []
content_pieces (content.Way tags refs) = (84 ∷ listed tag_written tags) ∷ (78 ∷ listed ref_written refs) ∷ []
content_pieces (content.Relation tags members) = (84 ∷ listed tag_written tags) ∷ (77 ∷ listed member_written members) ∷ []

-- a deleted object's fields are empty
abbrev pub bare_pieces : Kind → List (List ℕ)
bare_pieces Node = (84 ∷ []) ∷ (120 ∷ []) ∷ (121 ∷ []) ∷ []
bare_pieces Way = (84 ∷ []) ∷ (78 ∷ []) ∷ []
bare_pieces Relation = (84 ∷ []) ∷ (77 ∷ []) ∷ []

abbrev pub side_pieces : Kind → Option Content → List (List ℕ)
side_pieces kind None = bare_pieces kind
side_pieces kind (Some c) = content_pieces c

-- all fields but the first
abbrev pub pieces_of : Key → ℕ → Option Content → Meta → List (List ℕ)
pieces_of key version side meta = front_pieces version (is_some side) meta.changeset ++ (back_pieces meta ++ side_pieces key.kind side)

-- The written form of an object: its key, and behind a space each its version, whether it is visible, changeset, time, user id, user, tags, and its place, references or members.
unfoldable pub written : Key → ℕ → Option Content → Meta → List ℕ
written key version side meta = key_written key ++ (spaced (front_pieces version (is_some side) meta.changeset) ++ (spaced (back_pieces meta) ++ spaced (side_pieces key.kind side)))

-- The object with these fields.
abbrev pub object_with : Key → ℕ → Option Content → Meta → OplObject
object_with key version side meta = record { key = key; version = version; side = side; meta = meta }

-- The bytes have no LF.
abbrev pub IsOneLine : List ℕ → Type 0
IsOneLine bytes = list_all (λ b. not (b == 10)) bytes ≡ true
