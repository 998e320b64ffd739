use Rattle.std.specs.Prelude.{ℕ, ℤ, pos, negsuc, Bool, true, false, ◌==◌, ◌&&◌, nat_le, if◌then◌else◌, List, [], ◌∷◌, Result, Ok, Err, Option, Some, None, is_some, unsigned_abs, length, ◌++◌}
use Rattle.std.specs.Option.{option_and_then as and_then, option_map_or}
use Rattle.osm_base.specs.Number.{number_text}
use Rattle.osm_base.specs.Coord.{coord_text}
use Rattle.osm_base.specs.declared.key.Kind.{Kind}
use Rattle.osm_base.specs.declared.key.Kind.TheVariants.{Node, Way, Relation}
use Rattle.opl_text.specs.Text.{unescaped}
use Rattle.opl_text.specs.Time.{time_text}
use Rattle.opl_line.specs.declared.mode.Mode.{Mode}
use Rattle.opl_line.specs.declared.fault.LineFault.{LineFault}
use Rattle.opl_line.specs.declared.fault.LineFault.TheVariants as faults
use Rattle.opl_line.specs.declared.letter.Letter.{Letter}
use Rattle.opl_line.specs.declared.letter.Letter.TheVariants as letters
use Rattle.opl_line.specs.declared.object.Fields.{Fields}
use Rattle.opl_line.specs.Reads.{◌>>=◌, or_fault, folded}
use Rattle.opl_line.specs.Cut.{is_one_of, split, before, after}
use Rattle.std.specs.List.{list_all}
use Rattle.osm_base.specs.Number.{id_text, kind_letter}
use Rattle.osm_base.specs.Tags.{Pair, has_tag, with_tag}
use Rattle.osm_base.specs.declared.members.Member.{Member}
use Rattle.opl_line.specs.declared.mode.Mode.TheVariants.{Download, Import}

-- A negative id stands only in a file to be imported.
abbrev pub is_allowed : Mode → ℤ → Bool
is_allowed Import id = true
is_allowed Download (pos n) = true
is_allowed Download (negsuc n) = false

-- The number that 1 to 10 digits spell, up to a limit.
unfoldable pub number_to : ℕ → List ℕ → Option ℕ
number_to high text = and_then (λ n. if nat_le n high then Some n else None) (number_text 10 text)

-- The field that a byte begins.
unfoldable pub letter_of : ℕ → Option Letter
letter_of b =
    if b == 118 then Some letters.Version else
    (if b == 100 then Some letters.Visible else
    (if b == 99 then Some letters.Changeset else
    (if b == 105 then Some letters.Uid else
    (if b == 116 then Some letters.Time else
    (if b == 117 then Some letters.User else
    (if b == 84 then Some letters.Tags else
    (if b == 120 then Some letters.X else
    (if b == 121 then Some letters.Y else
    (if b == 78 then Some letters.Refs else
    (if b == 77 then Some letters.Members else None))))))))))

-- Whether objects of a kind have the field.
abbrev pub has_field : Letter → Kind → Bool
has_field letters.X Node = true
has_field letters.X kind = false
has_field letters.Y Node = true
has_field letters.Y kind = false
has_field letters.Refs Way = true
has_field letters.Refs kind = false
has_field letters.Members Relation = true
has_field letters.Members kind = false
has_field letter kind = true

-- Each field, as it is read: that it came before is the first fault, that its value isn't one the second. `Told` has them in one
-- table, by the byte that begins each.
unfoldable pub version_into : Fields → List ℕ → Result Fields LineFault
version_into f text = if is_some f.version then Err faults.FieldTwice else (do
  n ← or_fault faults.BadNumber (number_to 2000000000 text)
  Ok (record f { version = Some n }))

unfoldable pub changeset_into : Fields → List ℕ → Result Fields LineFault
changeset_into f text = if is_some f.changeset then Err faults.FieldTwice else (do
  n ← or_fault faults.BadNumber (number_to 4294967295 text)
  Ok (record f { changeset = Some n }))

unfoldable pub uid_into : Fields → List ℕ → Result Fields LineFault
uid_into f text = if is_some f.uid then Err faults.FieldTwice else (do
  n ← or_fault faults.BadNumber (number_to 4294967295 text)
  Ok (record f { uid = Some n }))

-- `V` or `D`.
unfoldable pub visible_text : List ℕ → Option Bool
visible_text [] = None
visible_text (b ∷ []) = if b == 86 then Some true else (if b == 68 then Some false else None)
visible_text (b ∷ c ∷ bytes) = None

unfoldable pub visible_into : Fields → List ℕ → Result Fields LineFault
visible_into f text = if is_some f.visible then Err faults.FieldTwice else (do
  n ← or_fault faults.UnknownField (visible_text text)
  Ok (record f { visible = Some n }))

unfoldable pub time_into : Fields → List ℕ → Result Fields LineFault
time_into f text = if is_some f.time then Err faults.FieldTwice else (do
  time ← or_fault faults.BadTime (time_text text)
  Ok (record f { time = Some time }))

unfoldable pub user_into : Fields → List ℕ → Result Fields LineFault
user_into f text = if is_some f.user then Err faults.FieldTwice else (do
  user ← or_fault faults.BadText (unescaped text)
  Ok (record f { user = Some user }))

-- Nothing, or a coordinate text in range.
unfoldable pub place_text : ℕ → List ℕ → Option (Option ℤ)
place_text limit [] = Some None
place_text limit (b ∷ text) = and_then (λ v. if nat_le (unsigned_abs v) limit then Some (Some v) else None) (coord_text (b ∷ text))

unfoldable pub x_into : Fields → List ℕ → Result Fields LineFault
x_into f text = if is_some f.x then Err faults.FieldTwice else (do
  place ← or_fault faults.BadCoordinate (place_text 1800000000 text)
  Ok (record f { x = Some place }))

unfoldable pub y_into : Fields → List ℕ → Result Fields LineFault
y_into f text = if is_some f.y then Err faults.FieldTwice else (do
  place ← or_fault faults.BadCoordinate (place_text 900000000 text)
  Ok (record f { y = Some place }))

-- one separator
abbrev pub is : ℕ → ℕ → Bool
is mark = is_one_of mark mark

-- One tag more: a key, `=` and a value.
unfoldable pub tag_into : List Pair → List ℕ → Result (List Pair) LineFault
tag_into tags item = do
  key ← or_fault faults.BadText (unescaped (before (is 61) item))
  if length key == 0 then Err faults.BadTags else (do
    rest ← or_fault faults.BadTags (after (is 61) item)
    if has_tag tags key then Err faults.BadTags else (do
      value ← or_fault faults.BadText (unescaped (before (is 61) rest))
      if is_some (after (is 61) rest) then Err faults.BadTags else Ok (with_tag tags key value)))

-- Nothing, or tags with `,` between them.
unfoldable pub tags_text : List ℕ → Result (List Pair) LineFault
tags_text [] = Ok []
tags_text (b ∷ text) = folded tag_into [] (split (is 44) (b ∷ text))

unfoldable pub tags_into : Fields → List ℕ → Result Fields LineFault
tags_into f text = if is_some f.tags then Err faults.FieldTwice else (do
  tags ← tags_text text
  Ok (record f { tags = Some tags }))

-- A longitude, `y` and a latitude; each may be nothing.
unfoldable pub is_place : List ℕ → Bool
is_place text = is_some (place_text 1800000000 (before (is 121) text)) && option_map_or (λ lat. is_some (place_text 900000000 lat)) (after (is 121) text) false

-- The place of a reference, if it has one, is a place.
abbrev pub is_place_or_none : Option (List ℕ) → Bool
is_place_or_none None = true
is_place_or_none (Some text) = is_place text

-- `n`, an id, and perhaps a place, which is dropped.
unfoldable pub ref_text : List ℕ → Option ℤ
ref_text [] = None
ref_text (b ∷ text) = if b == 110 then and_then (λ id. if is_place_or_none (after (is 120) text) then Some id else None) (id_text (before (is 120) text)) else None

unfoldable pub ref_into : List ℤ → List ℕ → Result (List ℤ) LineFault
ref_into refs item = do
  id ← or_fault faults.BadRefs (ref_text item)
  Ok (refs ++ id ∷ [])

-- Nothing, or references with `,` between them.
unfoldable pub refs_text : List ℕ → Result (List ℤ) LineFault
refs_text [] = Ok []
refs_text (b ∷ text) = folded ref_into [] (split (is 44) (b ∷ text))

-- References of a download aren't negative.
unfoldable pub refs_into : Mode → Fields → List ℕ → Result Fields LineFault
refs_into mode f text = if is_some f.refs then Err faults.FieldTwice else (do
  refs ← refs_text text
  if list_all (is_allowed mode) refs then Ok (record f { refs = Some refs }) else Err faults.NegativeId)

-- A kind, an id, `@` and a role.
unfoldable pub member_at : List ℕ → Result Member LineFault
member_at [] = Err faults.BadMembers
member_at (b ∷ text) = do
  kind ← or_fault faults.BadMembers (kind_letter b)
  id ← or_fault faults.BadMembers (id_text (before (is 64) text))
  rest ← or_fault faults.BadMembers (after (is 64) text)
  role ← or_fault faults.BadText (unescaped rest)
  Ok (record { key = record { kind = kind; id = id }; role = role })

unfoldable pub member_into : List Member → List ℕ → Result (List Member) LineFault
member_into members item = do
  member ← member_at item
  Ok (members ++ member ∷ [])

-- Nothing, or members with `,` between them.
unfoldable pub members_text : List ℕ → Result (List Member) LineFault
members_text [] = Ok []
members_text (b ∷ text) = folded member_into [] (split (is 44) (b ∷ text))

unfoldable pub members_into : Mode → Fields → List ℕ → Result Fields LineFault
members_into mode f text = if is_some f.members then Err faults.FieldTwice else (do
  members ← members_text text
  if list_all (λ m. is_allowed mode m.key.id) members then Ok (record f { members = Some members }) else Err faults.NegativeId)

-- The fields with one more, by its letter.
unfoldable pub named_into : Mode → Letter → Fields → List ℕ → Result Fields LineFault
named_into mode letters.Version f text = version_into f text
named_into mode letters.Visible f text = visible_into f text
named_into mode letters.Changeset f text = changeset_into f text
named_into mode letters.Uid f text = uid_into f text
named_into mode letters.Time f text = time_into f text
named_into mode letters.User f text = user_into f text
named_into mode letters.X f text = x_into f text
named_into mode letters.Y f text = y_into f text
named_into mode letters.Tags f text = tags_into f text
named_into mode letters.Refs f text = refs_into mode f text
named_into mode letters.Members f text = members_into mode f text

-- The fields with one more: its letter is one, its kind has it, and then its own faults. An empty piece, between two blanks, is no field.
unfoldable pub field_into : Mode → Kind → Fields → List ℕ → Result Fields LineFault
field_into mode kind f [] = Ok f
field_into mode kind f (b ∷ text) = do
  letter ← or_fault faults.UnknownField (letter_of b)
  if has_field letter kind then named_into mode letter f text else Err faults.WrongField
