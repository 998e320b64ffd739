-- What is spelled so is read.
use Rattle.std.proofs.Common.{◌≡◌, ℕ, Bool, true, false, cond, List, [], ◌∷◌, Option, Some, None, subst, Result, Ok, Err, refl, sym, ap, ◌∙◌, arith}
use Rattle.std.specs.Prelude.{◌==◌}
use Rattle.osm_base.specs.declared.key.Kind.{Kind}
use Rattle.opl_line.specs.declared.mode.Mode.{Mode}
use Rattle.opl_line.specs.declared.fault.LineFault.{LineFault}
use Rattle.opl_line.specs.declared.fault.LineFault.TheVariants as faults
use Rattle.opl_line.specs.declared.letter.Letter.{Letter}
use Rattle.opl_line.specs.declared.letter.Letter.TheVariants as letters
use Rattle.osm_base.specs.declared.key.Key.{Key}
use Rattle.opl_line.specs.declared.object.OplObject.{OplObject}
use Rattle.opl_line.specs.declared.object.LineKind.{LineKind}
use Rattle.opl_line.specs.declared.object.LineKind.TheVariants.{Skipped, Object}
use Rattle.opl_line.specs.Cut.{split}
use Rattle.opl_line.specs.Line.{is_blank, key_at, no_fields, completed, object_of, freed, is_skipped, kind_of_line, line_of}
use Rattle.opl_line.specs.Reads.{◌>>=◌, or_fault, folded}
use Rattle.opl_line.specs.Field.{version_into, visible_into, changeset_into, uid_into, time_into, user_into, x_into, y_into, tags_into, refs_into, members_into, named_into, field_into}
use Rattle.opl_line.specs.Spelling.{Means, text_with, gathered, HasValue, IsField, AreFields, turned, Spells}
use Rattle.opl_line.proofs.Forward.{Pieces, read_is_spelled, byte_of, letter_byte, bind_ok, some_ok}
use Rattle.osm_base.specs.Number.{kind_letter}
use Rattle.osm_base.specs.declared.key.Kind.TheVariants.{Node, Way, Relation}
use Rattle.opl_line.specs.Cut.{onto_first}
use Rattle.opl_line.specs.Line.{id_at}

version_again : (mode : Mode) (seen : List (List ℕ)) (text : List ℕ) → text_with 118 seen ≡ None → HasValue mode letters.Version text → version_into (gathered seen) text ≡ Ok (gathered ((118 ∷ text) ∷ seen))
unfolding version_into
version_again mode seen text new value = rw (new, value.1) refl

visible_again : (mode : Mode) (seen : List (List ℕ)) (text : List ℕ) → text_with 100 seen ≡ None → HasValue mode letters.Visible text → visible_into (gathered seen) text ≡ Ok (gathered ((100 ∷ text) ∷ seen))
unfolding visible_into
visible_again mode seen text new value = rw (new, value.1) refl

changeset_again : (mode : Mode) (seen : List (List ℕ)) (text : List ℕ) → text_with 99 seen ≡ None → HasValue mode letters.Changeset text → changeset_into (gathered seen) text ≡ Ok (gathered ((99 ∷ text) ∷ seen))
unfolding changeset_into
changeset_again mode seen text new value = rw (new, value.1) refl

uid_again : (mode : Mode) (seen : List (List ℕ)) (text : List ℕ) → text_with 105 seen ≡ None → HasValue mode letters.Uid text → uid_into (gathered seen) text ≡ Ok (gathered ((105 ∷ text) ∷ seen))
unfolding uid_into
uid_again mode seen text new value = rw (new, value.1) refl

time_again : (mode : Mode) (seen : List (List ℕ)) (text : List ℕ) → text_with 116 seen ≡ None → HasValue mode letters.Time text → time_into (gathered seen) text ≡ Ok (gathered ((116 ∷ text) ∷ seen))
unfolding time_into
time_again mode seen text new value = rw (new, value.1) refl

user_again : (mode : Mode) (seen : List (List ℕ)) (text : List ℕ) → text_with 117 seen ≡ None → HasValue mode letters.User text → user_into (gathered seen) text ≡ Ok (gathered ((117 ∷ text) ∷ seen))
unfolding user_into
user_again mode seen text new value = rw (new, value.1) refl

x_again : (mode : Mode) (seen : List (List ℕ)) (text : List ℕ) → text_with 120 seen ≡ None → HasValue mode letters.X text → x_into (gathered seen) text ≡ Ok (gathered ((120 ∷ text) ∷ seen))
unfolding x_into
x_again mode seen text new value = rw (new, value.1) refl

y_again : (mode : Mode) (seen : List (List ℕ)) (text : List ℕ) → text_with 121 seen ≡ None → HasValue mode letters.Y text → y_into (gathered seen) text ≡ Ok (gathered ((121 ∷ text) ∷ seen))
unfolding y_into
y_again mode seen text new value = rw (new, value.1) refl

tags_again : (mode : Mode) (seen : List (List ℕ)) (text : List ℕ) → text_with 84 seen ≡ None → HasValue mode letters.Tags text → tags_into (gathered seen) text ≡ Ok (gathered ((84 ∷ text) ∷ seen))
unfolding tags_into
tags_again mode seen text new value = rw (new, value.1) refl

refs_again : (mode : Mode) (seen : List (List ℕ)) (text : List ℕ) → text_with 78 seen ≡ None → HasValue mode letters.Refs text → refs_into mode (gathered seen) text ≡ Ok (gathered ((78 ∷ text) ∷ seen))
unfolding refs_into
refs_again mode seen text new value = rw (new, value.1, value.2) refl

members_again : (mode : Mode) (seen : List (List ℕ)) (text : List ℕ) → text_with 77 seen ≡ None → HasValue mode letters.Members text → members_into mode (gathered seen) text ≡ Ok (gathered ((77 ∷ text) ∷ seen))
unfolding members_into
members_again mode seen text new value = rw (new, value.1, value.2) refl

named_again : (mode : Mode) (letter : Letter) (seen : List (List ℕ)) (text : List ℕ) → text_with (byte_of letter) seen ≡ None → HasValue mode letter text → named_into mode letter (gathered seen) text ≡ Ok (gathered ((byte_of letter ∷ text) ∷ seen))
unfolding named_into
named_again mode letters.Version seen text = version_again mode seen text
named_again mode letters.Visible seen text = visible_again mode seen text
named_again mode letters.Changeset seen text = changeset_again mode seen text
named_again mode letters.Uid seen text = uid_again mode seen text
named_again mode letters.Time seen text = time_again mode seen text
named_again mode letters.User seen text = user_again mode seen text
named_again mode letters.X seen text = x_again mode seen text
named_again mode letters.Y seen text = y_again mode seen text
named_again mode letters.Tags seen text = tags_again mode seen text
named_again mode letters.Refs seen text = refs_again mode seen text
named_again mode letters.Members seen text = members_again mode seen text

field_again : (mode : Mode) (kind : Kind) (seen : List (List ℕ)) (b : ℕ) (text : List ℕ) → IsField mode kind b text → text_with b seen ≡ None → field_into mode kind (gathered seen) (b ∷ text) ≡ Ok (gathered ((b ∷ text) ∷ seen))
unfolding field_into
field_again mode kind seen b text is new =
    let same = letter_byte b is.0 is.1 in
    let named = named_again mode is.0 seen text (subst (λ c. text_with c seen ≡ None) same new) is.3 in
    rw (is.1, is.2) (named ∙ ap (λ c. Ok (gathered ((c ∷ text) ∷ seen))) (sym same))

-- what has been seen are fields
front_of : (mode : Mode) (kind : Kind) (seen pieces : List (List ℕ)) → AreFields mode kind (turned seen pieces) → AreFields mode kind seen
front_of mode kind seen [] fields = fields
front_of mode kind seen ([] ∷ pieces) fields = front_of mode kind ([] ∷ seen) pieces fields
front_of mode kind seen ((b ∷ text) ∷ pieces) fields = (front_of mode kind ((b ∷ text) ∷ seen) pieces fields).2

all_again : (mode : Mode) (kind : Kind) (seen pieces : List (List ℕ)) → AreFields mode kind (turned seen pieces) → folded (field_into mode kind) (gathered seen) pieces ≡ Ok (gathered (turned seen pieces))
unfolding field_into
all_again mode kind seen [] fields = refl
all_again mode kind seen ([] ∷ pieces) fields = all_again mode kind ([] ∷ seen) pieces fields
all_again mode kind seen ((b ∷ text) ∷ pieces) fields =
    let f = front_of mode kind ((b ∷ text) ∷ seen) pieces fields in
    let step = field_again mode kind seen b text f.0 f.1 in
    ap (λ r. r >>= λ g. folded (field_into mode kind) g pieces) step ∙ all_again mode kind ((b ∷ text) ∷ seen) pieces fields

object_again : (mode : Mode) (first : List ℕ) (pieces : List (List ℕ)) (o : OplObject) → Pieces mode first pieces o → object_of mode (first ∷ pieces) ≡ Ok o
unfolding object_of
object_again mode first pieces o p =
    let step = all_again mode o.key.kind [] pieces p.fields in
    ap (λ k. k >>= λ (key : Key). folded (field_into mode key.kind) no_fields pieces >>= λ f. completed key f) p.key
    ∙ ap (λ r. r >>= λ f. completed o.key f) step ∙ p.values

-- ---- no line that spells is skipped

abbrev IsLetter : ℕ → Type 0
IsLetter c = ((c == 35) ≡ false) × ((c == 99) ≡ false)

letter_kind : (c d : ℕ) (t : Bool) (l k : Kind) (rest : Option Kind) → (t ≡ true → c ≡ d) → IsLetter d → cond t (Some l) rest ≡ Some k → (rest ≡ Some k → IsLetter c) → IsLetter c
letter_kind c d true l k rest h is e more = subst IsLetter (sym (h refl)) is
letter_kind c d false l k rest h is e more = more e

kind_byte : (c : ℕ) (k : Kind) → kind_letter c ≡ Some k → IsLetter c
unfolding kind_letter
kind_byte c k e =
    letter_kind c 110 (c == 110) Node k _ (λ h. grind arith) (refl, refl) e
    (λ e. letter_kind c 119 (c == 119) Way k _ (λ h. grind arith) (refl, refl) e
    (λ e. letter_kind c 114 (c == 114) Relation k _ (λ h. grind arith) (refl, refl) e (λ e. absurd cc)))

key_first : (mode : Mode) (first : List ℕ) (key : Key) → key_at mode first ≡ Ok key → (c : ℕ) × (text : List ℕ) × (first ≡ c ∷ text) × IsLetter c
unfolding key_at
key_first mode [] key e = absurd cc
key_first mode (c ∷ text) key e =
    let p = bind_ok (or_fault faults.BadStart (kind_letter c)) (λ kind. id_at mode text >>= λ id. Ok (record { kind = kind; id = id })) key e in
    (c, text, refl, kind_byte c p.0 (some_ok faults.BadStart (kind_letter c) p.0 p.1))

heads : (b c : ℕ) (text : List ℕ) (pieces more : List (List ℕ)) → onto_first b more ≡ (c ∷ text) ∷ pieces → b ≡ c
heads b c text pieces [] e = cc
heads b c text pieces (p ∷ more) e = cc

kept_case : (b c : ℕ) (text bytes : List ℕ) (pieces : List (List ℕ)) (t : Bool) → t ≡ is_blank b → IsLetter c → cond t ([] ∷ split is_blank bytes) (onto_first b (split is_blank bytes)) ≡ (c ∷ text) ∷ pieces → is_skipped (b ∷ bytes) ≡ false
kept_case b c text bytes pieces true s is e = absurd cc
kept_case b c text bytes pieces false s is e =
    let l : IsLetter b = subst IsLetter (sym (heads b c text pieces (split is_blank bytes) e)) is in
    rw (sym s, l.0, l.1) refl

kept_line : (line : List ℕ) (c : ℕ) (text : List ℕ) (pieces : List (List ℕ)) → IsLetter c → split is_blank line ≡ (c ∷ text) ∷ pieces → is_skipped line ≡ false
kept_line [] c text pieces is e = absurd cc
kept_line (b ∷ bytes) c text pieces is e = kept_case b c text bytes pieces (is_blank b) refl is e

-- What is spelled so is read.
pub spelled_is_read : (mode : Mode) (line : List ℕ) (o : OplObject) → Spells mode line o → line_of mode line ≡ Ok (Object o)
unfolding line_of kind_of_line
spelled_is_read mode line o s =
    let k = key_first mode s.first o.key s.key in
    let not = kept_line (freed line) k.0 k.1 s.pieces k.3 (s.cut ∙ ap (λ first. first ∷ s.pieces) k.2) in
    let object = object_again mode s.first s.pieces o (record { key = s.key; fields = s.fields; values = s.values }) in
    rw (not, s.cut) (ap (λ r. r >>= λ x. Ok (Object x)) object)

-- ---- one meaning

skipped_case : (t : Bool) (r : Result OplObject LineFault) → cond t (Ok Skipped) (r >>= λ x. Ok (Object x)) ≡ Ok Skipped → t ≡ true
skipped_case true r e = refl
skipped_case false (Ok x) e = absurd cc
skipped_case false (Err d) e = absurd cc

skipped_only : (mode : Mode) (line : List ℕ) → line_of mode line ≡ Ok Skipped → is_skipped (freed line) ≡ true
unfolding line_of kind_of_line
skipped_only mode line e = skipped_case (is_skipped (freed line)) (object_of mode (split is_blank (freed line))) e

meaning_case : (mode : Mode) (line : List ℕ) (meaning : Result LineKind LineFault) → line_of mode line ≡ meaning → Means mode line meaning
meaning_case mode line (Ok Skipped) e = skipped_only mode line e
meaning_case mode line (Ok (Object o)) e = read_is_spelled mode line o e
meaning_case mode line (Err fault) e = e

-- What is read is what the line means.
pub has_meaning : (mode : Mode) (line : List ℕ) → Means mode line (line_of mode line)
has_meaning mode line = meaning_case mode line (line_of mode line) refl

skipped_is_read : (mode : Mode) (line : List ℕ) → is_skipped (freed line) ≡ true → line_of mode line ≡ Ok Skipped
unfolding line_of kind_of_line
skipped_is_read mode line h = rw h refl

-- A line means nothing else.
pub meaning_is_read : (mode : Mode) (line : List ℕ) (meaning : Result LineKind LineFault) → Means mode line meaning → line_of mode line ≡ meaning
meaning_is_read mode line (Ok Skipped) h = skipped_is_read mode line h
meaning_is_read mode line (Ok (Object o)) h = spelled_is_read mode line o h
meaning_is_read mode line (Err fault) h = h
