use Rattle.std.specs.Prelude.{ℕ, ℤ, pos, negsuc, Bool, true, ◌==◌, ◌&&◌, ◌||◌, if◌then◌else◌, List, [], ◌∷◌, Result, Ok, Err, Option, Some, None, nat_lt, length, take, ◌-◌, slice_index}
use Rattle.std.specs.Option.{unwrap_or}
use Rattle.std.specs.List.{list_all}
use Rattle.osm_base.specs.Number.{kind_letter, id_text}
use Rattle.osm_base.specs.Place.{place_at}
use Rattle.osm_base.specs.declared.key.Key.{Key}
use Rattle.osm_base.specs.declared.key.Kind.{Kind}
use Rattle.osm_base.specs.declared.key.Kind.TheVariants.{Node, Way, Relation}
use Rattle.osm_base.specs.declared.coord.Coord.{Coord}
use Rattle.osm_base.specs.declared.meta.Meta.{Meta}
use Rattle.osm_base.specs.declared.content.Content.{Content}
use Rattle.osm_base.specs.declared.content.Content.TheVariants as content
use Rattle.opl_line.specs.declared.mode.Mode.{Mode}
use Rattle.opl_line.specs.declared.fault.LineFault.{LineFault}
use Rattle.opl_line.specs.declared.fault.LineFault.TheVariants as faults
use Rattle.opl_line.specs.declared.object.Fields.{Fields}
use Rattle.opl_line.specs.declared.object.OplObject.{OplObject}
use Rattle.opl_line.specs.declared.object.LineKind.{LineKind}
use Rattle.opl_line.specs.declared.object.LineKind.TheVariants.{Skipped, Object}
use Rattle.opl_line.specs.Reads.{◌>>=◌, or_fault, folded}
use Rattle.opl_line.specs.Cut.{is_one_of, split}
use Rattle.opl_line.specs.Field.{is_allowed, field_into}

-- a space or a tab
abbrev pub is_blank : ℕ → Bool
is_blank = is_one_of 32 9

-- The id of a line's object.
unfoldable pub id_at : Mode → List ℕ → Result ℤ LineFault
id_at mode text = do
  id ← or_fault faults.BadId (id_text text)
  if is_allowed mode id then Ok id else Err faults.NegativeId

-- The first field: a kind and an id.
unfoldable pub key_at : Mode → List ℕ → Result Key LineFault
key_at mode [] = Err faults.BadStart
key_at mode (b ∷ text) = do
  kind ← or_fault faults.BadStart (kind_letter b)
  id ← id_at mode text
  Ok (record { kind = kind; id = id })

abbrev pub no_fields : Fields
no_fields = record { version = None; visible = None; changeset = None; time = None; uid = None; user = None; tags = None; x = None; y = None; refs = None; members = None }

-- A positive id has a version; that of a negative one is dropped and stands as 0.
unfoldable pub version_of : ℤ → Option ℕ → Result ℕ LineFault
version_of (negsuc n) version = Ok 0
version_of (pos n) version = if unwrap_or version 0 == 0 then Err faults.NoVersion else Ok (unwrap_or version 0)

-- A visible node has both coordinates. (Each was read as one, so the place is on the map.)
unfoldable pub location_of : Option (Option ℤ) → Option (Option ℤ) → Result Coord LineFault
location_of (Some (Some x)) (Some (Some y)) = or_fault faults.NoLocation (place_at x y)
location_of x y = Err faults.NoLocation

-- What a visible object has; missing tags, references and members are none.
unfoldable pub content_of : Kind → Fields → Result Content LineFault
content_of Node f = do
  at ← location_of f.x f.y
  Ok (content.Node (unwrap_or f.tags []) at)
content_of Way f = Ok (content.Way (unwrap_or f.tags []) (unwrap_or f.refs []))
content_of Relation f = Ok (content.Relation (unwrap_or f.tags []) (unwrap_or f.members []))

-- A deleted object has no side.
unfoldable pub side_of : Kind → Fields → Result (Option Content) LineFault
side_of kind f = if unwrap_or f.visible true then (do
  side ← content_of kind f
  Ok (Some side)) else Ok None

-- What is known of the last change; what is missing is 0, no time and the empty user.
abbrev pub meta_of : Fields → Meta
meta_of f = record { changeset = unwrap_or f.changeset 0; time = unwrap_or f.time None; uid = unwrap_or f.uid 0; user = unwrap_or f.user [] }

-- The object, once all fields are there: first its version, then its location.
unfoldable pub completed : Key → Fields → Result OplObject LineFault
completed key f = do
  version ← version_of key.id f.version
  side ← side_of key.kind f
  Ok (record { key = key; version = version; side = side; meta = meta_of f })

-- The object of a line's pieces: the first field, the others from the left, and what they are together.
unfoldable pub object_of : Mode → List (List ℕ) → Result OplObject LineFault
object_of mode [] = Err faults.BadStart
object_of mode (first ∷ pieces) = do
  key ← key_at mode first
  fields ← folded (field_into mode key.kind) no_fields pieces
  completed key fields

-- The line without one CR at its end.
abbrev pub freed : List ℕ → List ℕ
freed line = if nat_lt 0 (length line) && slice_index line (length line - 1) == 13 then take (length line - 1) line else line

-- Nothing but blanks, or it begins with `#` (a comment) or `c` (a changeset).
abbrev pub is_skipped : List ℕ → Bool
is_skipped line = list_all is_blank line || slice_index line 0 == 35 || slice_index line 0 == 99

-- What the line without its CR is.
unfoldable pub kind_of_line : Mode → List ℕ → Result LineKind LineFault
kind_of_line mode line = if is_skipped line then Ok Skipped else (do
  object ← object_of mode (split is_blank line)
  Ok (Object object))

-- What a line is: skipped, an object, or its first fault from the left.
unfoldable pub line_of : Mode → List ℕ → Result LineKind LineFault
line_of mode line = kind_of_line mode (freed line)
