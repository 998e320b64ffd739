-- Each field reads what its byte tells.
use Rattle.std.proofs.Common.{◌≡◌, ℕ, Bool, true, false, cond, List, [], ◌∷◌, Option, Some, None, Result, Ok, Err, refl, sym, ◌∙◌}
use Rattle.std.specs.Prelude.{◌↔◌, ◌==◌, is_some}
use Rattle.std.specs.List.{list_all}
use Rattle.osm_base.specs.declared.key.Kind.{Kind}
use Rattle.osm_base.specs.declared.key.Kind.TheVariants.{Node, Way, Relation}
use Rattle.osm_base.specs.declared.members.Member.{Member}
use Rattle.opl_line.specs.declared.mode.Mode.{Mode}
use Rattle.opl_line.specs.declared.fault.LineFault.{LineFault}
use Rattle.opl_line.specs.declared.fault.LineFault.TheVariants as faults
use Rattle.opl_line.specs.declared.letter.Letter.{Letter}
use Rattle.opl_line.specs.declared.letter.Letter.TheVariants as letters
use Rattle.opl_line.specs.declared.object.Fields.{Fields}
use Rattle.opl_line.specs.Field.{changeset_into, field_into, has_field, is_allowed, letter_of, members_into, members_text, named_into, place_text, refs_into, refs_text, tags_into, time_into, uid_into, user_into, version_into, visible_into, x_into, y_into}
use Rattle.opl_line.specs.Reads.{◌>>=◌, or_fault}
use Rattle.opl_line.specs.Told.{allowed, by_byte, listed, once, only, with_field}

first : {A : Type 0} (old : Option A) (value : Result A LineFault) (with : A → Fields) → cond (is_some old) (Err faults.FieldTwice) (value >>= λ x. Ok (with x)) ≡ once old value with
first None value with = refl
first (Some x) value with = refl

tested : {A : Type 0} (b : Bool) (x : A) (with : A → Fields) → cond b (Ok (with x)) (Err faults.NegativeId) ≡ (cond b (Ok x) (Err faults.NegativeId) >>= λ y. Ok (with y))
tested true x with = refl
tested false x with = refl

may_stand : {A : Type 0} (may : A → Bool) (ids : Result A LineFault) (with : A → Fields) → (ids >>= λ x. cond (may x) (Ok (with x)) (Err faults.NegativeId)) ≡ (allowed may ids >>= λ x. Ok (with x))
may_stand may (Ok x) with = tested (may x) x with
may_stand may (Err e) with = refl

-- the same with ids that may stand there
first_allowed : {A : Type 0} (old : Option A) (may : A → Bool) (ids : Result A LineFault) (with : A → Fields) → cond (is_some old) (Err faults.FieldTwice) (ids >>= λ x. cond (may x) (Ok (with x)) (Err faults.NegativeId)) ≡ once old (allowed may ids) with
first_allowed None may ids with = may_stand may ids with
first_allowed (Some x) may ids with = refl

-- what a letter makes of the fields
abbrev into : Mode → Kind → Fields → List ℕ → Letter → Result Fields LineFault
into mode kind f text letter = cond (has_field letter kind) (named_into mode letter f text) (Err faults.WrongField)

of_x : (mode : Mode) (kind : Kind) (f : Fields) (text : List ℕ) → into mode kind f text letters.X ≡ only Node kind (once f.x (or_fault faults.BadCoordinate (place_text 1800000000 text)) (λ x. record f { x = Some x }))
unfolding named_into x_into
of_x mode Node f text = first f.x _ _
of_x mode Way f text = refl
of_x mode Relation f text = refl

of_y : (mode : Mode) (kind : Kind) (f : Fields) (text : List ℕ) → into mode kind f text letters.Y ≡ only Node kind (once f.y (or_fault faults.BadCoordinate (place_text 900000000 text)) (λ y. record f { y = Some y }))
unfolding named_into y_into
of_y mode Node f text = first f.y _ _
of_y mode Way f text = refl
of_y mode Relation f text = refl

of_refs : (mode : Mode) (kind : Kind) (f : Fields) (text : List ℕ) → into mode kind f text letters.Refs ≡ only Way kind (once f.refs (allowed (list_all (is_allowed mode)) (refs_text text)) (λ refs. record f { refs = Some refs }))
unfolding named_into refs_into
of_refs mode Node f text = refl
of_refs mode Way f text = first_allowed f.refs (list_all (is_allowed mode)) (refs_text text) _
of_refs mode Relation f text = refl

of_members : (mode : Mode) (kind : Kind) (f : Fields) (text : List ℕ) → into mode kind f text letters.Members ≡ only Relation kind (once f.members (allowed (list_all (λ m. is_allowed mode m.key.id)) (members_text text)) (λ ms. record f { members = Some ms }))
unfolding named_into members_into
of_members mode Node f text = refl
of_members mode Way f text = refl
of_members mode Relation f text = first_allowed f.members (list_all (λ (m : Member). is_allowed mode m.key.id)) (members_text text) _

module _ (mode : Mode) (kind : Kind) (f : Fields) (text : List ℕ) where
  -- by a test of the byte
  either : (b : Bool) (letter : Letter) (others : Option Letter) (here there : Result Fields LineFault) → into mode kind f text letter ≡ here → (or_fault faults.UnknownField others >>= into mode kind f text) ≡ there → (or_fault faults.UnknownField (cond b (Some letter) others) >>= into mode kind f text) ≡ cond b here there
  either true letter others here there h i = h
  either false letter others here there h i = i

  byte_told : (b : ℕ) → (or_fault faults.UnknownField (letter_of b) >>= into mode kind f text) ≡ listed b (by_byte mode kind f text)
  unfolding letter_of named_into version_into changeset_into uid_into visible_into time_into user_into tags_into
  byte_told b =
      either (b == 118) letters.Version _ _ _ (first f.version _ _)
      (either (b == 100) letters.Visible _ _ _ (first f.visible _ _)
      (either (b == 99) letters.Changeset _ _ _ (first f.changeset _ _)
      (either (b == 105) letters.Uid _ _ _ (first f.uid _ _)
      (either (b == 116) letters.Time _ _ _ (first f.time _ _)
      (either (b == 117) letters.User _ _ _ (first f.user _ _)
      (either (b == 84) letters.Tags _ _ _ (first f.tags _ _)
      (either (b == 120) letters.X _ _ _ (of_x mode kind f text)
      (either (b == 121) letters.Y _ _ _ (of_y mode kind f text)
      (either (b == 78) letters.Refs _ _ _ (of_refs mode kind f text)
      (either (b == 77) letters.Members None _ _ (of_members mode kind f text) refl))))))))))

field_told : (mode : Mode) (kind : Kind) (f : Fields) (piece : List ℕ) → field_into mode kind f piece ≡ with_field mode kind f piece
unfolding field_into
field_told mode kind f [] = refl
field_told mode kind f (b ∷ text) = byte_told mode kind f text b

pub told_exactly : (mode : Mode) (kind : Kind) (fields : Fields) (piece : List ℕ) (answer : Result Fields LineFault) → (field_into mode kind fields piece ≡ answer) ↔ (with_field mode kind fields piece ≡ answer)
told_exactly mode kind fields piece answer = (λ e. sym (field_told mode kind fields piece) ∙ e, λ e. field_told mode kind fields piece ∙ e)
