-- What each field of a line tells, by the byte that begins it.
--
-- The law `field_is_told` says that `field_into` gives what is told here, and nothing else: so this says all that the fields of a
-- line mean, and how they are read needn't be known.
use Rattle.std.specs.Prelude.{ℕ, Bool, ◌==◌, if◌then◌else◌, List, [], ◌∷◌, Result, Ok, Err, Option, Some, None}
use Rattle.std.specs.List.{list_all}
use Rattle.osm_base.specs.Rank.{kind_place}
use Rattle.osm_base.specs.declared.key.Kind.{Kind}
use Rattle.osm_base.specs.declared.key.Kind.TheVariants.{Node, Way, Relation}
use Rattle.opl_text.specs.Text.{unescaped}
use Rattle.opl_text.specs.Time.{time_text}
use Rattle.opl_line.specs.declared.mode.Mode.{Mode}
use Rattle.opl_line.specs.declared.fault.LineFault.{LineFault}
use Rattle.opl_line.specs.declared.fault.LineFault.TheVariants as faults
use Rattle.opl_line.specs.declared.object.Fields.{Fields}
use Rattle.opl_line.specs.Field.{is_allowed, number_to, visible_text, place_text, tags_text, refs_text, members_text}
use Rattle.opl_line.specs.Reads.{◌>>=◌, or_fault}

-- that it came before is the first fault, that its value isn't one the second
abbrev pub once : {A : Type 0} → Option A → Result A LineFault → (A → Fields) → Result Fields LineFault
once None value with = value >>= λ x. Ok (with x)
once (Some old) value with = Err faults.FieldTwice

-- a field that objects of one kind alone have
abbrev pub only : (has kind : Kind) → Result Fields LineFault → Result Fields LineFault
only has kind fields = if kind_place has == kind_place kind then fields else Err faults.WrongField

-- ids that may stand in a file of the mode
abbrev pub allowed : {A : Type 0} → (A → Bool) → Result A LineFault → Result A LineFault
allowed may ids = ids >>= λ x. if may x then Ok x else Err faults.NegativeId

-- what the fields before it are with one more of that text, by the byte that begins it
abbrev pub by_byte : Mode → Kind → Fields → List ℕ → List (ℕ × Result Fields LineFault)
by_byte mode kind f text =
    (118, once f.version (or_fault faults.BadNumber (number_to 2000000000 text)) (λ n. record f { version = Some n }))
    ∷ (100, once f.visible (or_fault faults.UnknownField (visible_text text)) (λ v. record f { visible = Some v }))
    ∷ (99, once f.changeset (or_fault faults.BadNumber (number_to 4294967295 text)) (λ n. record f { changeset = Some n }))
    ∷ (105, once f.uid (or_fault faults.BadNumber (number_to 4294967295 text)) (λ n. record f { uid = Some n }))
    ∷ (116, once f.time (or_fault faults.BadTime (time_text text)) (λ t. record f { time = Some t }))
    ∷ (117, once f.user (or_fault faults.BadText (unescaped text)) (λ t. record f { user = Some t }))
    ∷ (84, once f.tags (tags_text text) (λ tags. record f { tags = Some tags }))
    ∷ (120, only Node kind (once f.x (or_fault faults.BadCoordinate (place_text 1800000000 text)) (λ x. record f { x = Some x })))
    ∷ (121, only Node kind (once f.y (or_fault faults.BadCoordinate (place_text 900000000 text)) (λ y. record f { y = Some y })))
    ∷ (78, only Way kind (once f.refs (allowed (list_all (is_allowed mode)) (refs_text text)) (λ refs. record f { refs = Some refs })))
    ∷ (77, only Relation kind (once f.members (allowed (list_all (λ m. is_allowed mode m.key.id)) (members_text text)) (λ ms. record f { members = Some ms })))
    ∷ []

-- what is listed of a byte; one that isn't listed begins no field
abbrev pub listed : ℕ → List (ℕ × Result Fields LineFault) → Result Fields LineFault
listed b [] = Err faults.UnknownField
listed b (field ∷ fields) = if b == field.0 then field.1 else listed b fields

-- The fields with the one of a piece; an empty piece, between two blanks, is none.
abbrev pub with_field : Mode → Kind → Fields → List ℕ → Result Fields LineFault
with_field mode kind f [] = Ok f
with_field mode kind f (b ∷ text) = listed b (by_byte mode kind f text)
