-- What a line spells, whichever order its fields have.
use Rattle.std.specs.Prelude.{◌≡◌, ℕ, ℤ, Bool, true, ◌==◌, if◌then◌else◌, List, [], ◌∷◌, Result, Ok, Err, Option, Some, None}
use Rattle.std.specs.Option.{option_and_then as and_then}
use Rattle.std.specs.List.{list_all}
use Rattle.osm_base.specs.Tags.{Pair}
use Rattle.osm_base.specs.declared.key.Kind.{Kind}
use Rattle.osm_base.specs.declared.meta.Stamp.{Stamp}
use Rattle.osm_base.specs.declared.members.Member.{Member}
use Rattle.opl_text.specs.Text.{unescaped}
use Rattle.opl_text.specs.Time.{time_text}
use Rattle.opl_line.specs.declared.mode.Mode.{Mode}
use Rattle.opl_line.specs.declared.fault.LineFault.{LineFault}
use Rattle.opl_line.specs.declared.letter.Letter.{Letter}
use Rattle.opl_line.specs.declared.letter.Letter.TheVariants as letters
use Rattle.opl_line.specs.declared.object.Fields.{Fields}
use Rattle.opl_line.specs.declared.object.OplObject.{OplObject}
use Rattle.opl_line.specs.Cut.{split}
use Rattle.opl_line.specs.Field.{is_allowed, has_field, letter_of, number_to, visible_text, place_text, tags_text, refs_text, members_text}
use Rattle.opl_line.specs.declared.object.LineKind.{LineKind}
use Rattle.opl_line.specs.declared.object.LineKind.TheVariants.{Skipped, Object}
use Rattle.opl_line.specs.Line.{is_blank, key_at, completed, freed, is_skipped, line_of}

-- the text of the field that begins with the byte
abbrev pub text_with : ℕ → List (List ℕ) → Option (List ℕ)
text_with c [] = None
text_with c ([] ∷ fields) = text_with c fields
text_with c ((b ∷ text) ∷ fields) = if b == c then Some text else text_with c fields

abbrev pub ok_of : {A : Type 0} → Result A LineFault → Option A
ok_of (Ok x) = Some x
ok_of (Err e) = None

-- the value of each field, where it stands
abbrev pub gathered : List (List ℕ) → Fields
gathered fields = record {
  version = and_then (number_to 2000000000) (text_with 118 fields);
  visible = and_then visible_text (text_with 100 fields);
  changeset = and_then (number_to 4294967295) (text_with 99 fields);
  time = and_then time_text (text_with 116 fields);
  uid = and_then (number_to 4294967295) (text_with 105 fields);
  user = and_then unescaped (text_with 117 fields);
  tags = and_then (λ t. ok_of (tags_text t)) (text_with 84 fields);
  x = and_then (place_text 1800000000) (text_with 120 fields);
  y = and_then (place_text 900000000) (text_with 121 fields);
  refs = and_then (λ t. ok_of (refs_text t)) (text_with 78 fields);
  members = and_then (λ t. ok_of (members_text t)) (text_with 77 fields);
}

-- the text is in the field's small grammar
abbrev pub HasValue : Mode → Letter → List ℕ → Type 0
HasValue mode letters.Version text = (n : ℕ) × (number_to 2000000000 text ≡ Some n)
HasValue mode letters.Visible text = (v : Bool) × (visible_text text ≡ Some v)
HasValue mode letters.Changeset text = (n : ℕ) × (number_to 4294967295 text ≡ Some n)
HasValue mode letters.Uid text = (n : ℕ) × (number_to 4294967295 text ≡ Some n)
HasValue mode letters.Time text = (t : Option Stamp) × (time_text text ≡ Some t)
HasValue mode letters.User text = (t : List ℕ) × (unescaped text ≡ Some t)
HasValue mode letters.Tags text = (tags : List Pair) × (tags_text text ≡ Ok tags)
HasValue mode letters.X text = (place : Option ℤ) × (place_text 1800000000 text ≡ Some place)
HasValue mode letters.Y text = (place : Option ℤ) × (place_text 900000000 text ≡ Some place)
HasValue mode letters.Refs text = (refs : List ℤ) × (refs_text text ≡ Ok refs) × (list_all (is_allowed mode) refs ≡ true)
HasValue mode letters.Members text = (members : List Member) × (members_text text ≡ Ok members) × (list_all (λ m. is_allowed mode m.key.id) members ≡ true)

-- the byte begins a field of the kind, and the text is in its small grammar
abbrev pub IsField : Mode → Kind → ℕ → List ℕ → Type 0
IsField mode kind b text = (letter : Letter) × (letter_of b ≡ Some letter) × (has_field letter kind ≡ true) × HasValue mode letter text

-- Each is a field, and no letter comes twice. Between two blanks there is no field.
abbrev pub AreFields : Mode → Kind → List (List ℕ) → Type 0
AreFields mode kind [] = Unit {0}
AreFields mode kind ([] ∷ fields) = AreFields mode kind fields
AreFields mode kind ((b ∷ text) ∷ fields) = IsField mode kind b text × (text_with b fields ≡ None) × AreFields mode kind fields

-- from the last piece to the first
abbrev pub turned : List (List ℕ) → List (List ℕ) → List (List ℕ)
turned seen [] = seen
turned seen (piece ∷ pieces) = turned (piece ∷ seen) pieces

-- The line without its CR is a first field and further ones, each with its value in the object.
pub record Spells (mode : Mode) (line : List ℕ) (object : OplObject) : Type 0 where
  pub first : List ℕ
  pub pieces : List (List ℕ)
  pub cut : split is_blank (freed line) ≡ first ∷ pieces
  pub key : key_at mode first ≡ Ok object.key
  pub fields : AreFields mode object.key.kind (turned [] pieces)
  pub values : completed object.key (gathered (turned [] pieces)) ≡ Ok object

-- What a line means by the format: it is skipped, it spells an object, or it has a fault, the first from the left.
abbrev pub Means : Mode → List ℕ → Result LineKind LineFault → Type 0
Means mode line (Ok Skipped) = is_skipped (freed line) ≡ true
Means mode line (Ok (Object object)) = Spells mode line object
Means mode line (Err fault) = line_of mode line ≡ Err fault
