-- The line of an answer is read back.
use Rattle.std.proofs.Common.{◌≡◌, ℕ, suc, ◌-◌, ◌<◌, ◌≤◌, ◌^◌, ◌==◌, Bool, true, false, List, [], ◌∷◌, ◌++◌, length, filter, Some, refl, sym, ap, subst, ◌∙◌, arith}
use Rattle.std.specs.Prelude.{codes, decimal, slice_index, nat_lt}
use Rattle.std.specs.Fmt.{signed_decimal}
use Rattle.std.proofs.lemmas.Fmt.{first_decimal}
use Rattle.std.proofs.lemmas.Bool.Decides.{nat_tests}
use Rattle.osm_base.specs.Number.{IsId, key_written, letter_of, number_text}
use Rattle.osm_base.specs.declared.key.Key.{Key}
use Rattle.osm_base.proofs.KeyLaw.{key_again, number_again}
use Rattle.osm_base.proofs.RisingKeys.{key_itself}
use Rattle.opl_line.specs.Field.{is}
use Rattle.opl_line.specs.Line.{is_blank, freed}
use Rattle.opl_line.specs.Written.{spaced}
use Rattle.opl_line.proofs.Unbroken.{Unbroken, AllUnbroken, SparesAbove, unbroken_append, unbroken_spaced, cut_spaced, freed_same, decimal_unbroken, key_unbroken, unbroken_at}
use Rattle.opl_file.specs.Cut.{has_lf}
use Rattle.edit_script.specs.Grammar.{by_first}
use Rattle.edit_script.specs.Items.{has_byte, words_of}
use Rattle.edit_script.specs.Script.{is_skipped, has_outer_blank}
use Rattle.upload_order.specs.Rename.{with_id}
use Rattle.placeholder.specs.declared.answer.Answer.{Answer}
use Rattle.placeholder.specs.declared.answer.Answer.TheVariants.{Create, Modify, Delete}
use Rattle.answer_file.specs.Lines.{all_answers, answer_of, begins_with_0, has_kind_of, id_word, version_word}
use Rattle.answer_file.specs.Text.{line_of}

-- its keys have ids, and its version is one of an object
abbrev pub IsTold : Answer → Type 0
IsTold (Create placeholder id) = IsId placeholder.id × IsId id
IsTold (Modify key version) = IsId key.id × (1 ≤ version) × (version ≤ 2000000000)
IsTold (Delete key version) = IsId key.id × (1 ≤ version) × (version ≤ 2000000000)

-- ---- words

-- no word is empty
abbrev AreWords : List (List ℕ) → Type 0
AreWords [] = Unit {0}
AreWords (word ∷ words) = (0 < length word) × AreWords words

all_words : (words : List (List ℕ)) → AreWords words → filter has_byte words ≡ words
all_words [] h = refl
all_words (word ∷ words) h = let full : has_byte word ≡ true = grind (arith, nat_tests, h.0) in rw (full, all_words words h.1) refl

some : (byte : ℕ) (bytes : List ℕ) → 0 < length (byte ∷ bytes)
some byte bytes = omega arith

key_some : (key : Key) → 0 < length (key_written key)
key_some key = some (letter_of key.kind) (signed_decimal key.id)

-- what separates words or lines, or ends a line
abbrev SparesWords : (ℕ → Bool) → Type 0
SparesWords ends = (ends 45 ≡ false) × SparesAbove ends

version_unbroken : (ends : ℕ → Bool) (n : ℕ) → SparesWords ends → Unbroken ends (118 ∷ decimal n)
version_unbroken ends n h = (h.1 118 (omega arith), decimal_unbroken ends n (λ b least most. h.1 b least))

-- the words of the line of an answer
abbrev verb_of : Answer → List ℕ
verb_of (Create placeholder id) = codes "create"
verb_of (Modify key version) = codes "modify"
verb_of (Delete key version) = codes "delete"

abbrev others_of : Answer → List (List ℕ)
others_of (Create placeholder id) = key_written placeholder ∷ key_written (with_id placeholder id) ∷ codes "v1" ∷ []
others_of (Modify key version) = key_written key ∷ (118 ∷ decimal version) ∷ []
others_of (Delete key version) = key_written key ∷ (118 ∷ decimal version) ∷ []

line_is : (a : Answer) → line_of a ≡ verb_of a ++ spaced (others_of a)
line_is (Create placeholder id) = refl
line_is (Modify key version) = refl
line_is (Delete key version) = refl

verb_unbroken : (ends : ℕ → Bool) (a : Answer) → SparesWords ends → Unbroken ends (verb_of a)
verb_unbroken ends (Create placeholder id) h = (h.1 99 (omega arith), (h.1 114 (omega arith), (h.1 101 (omega arith), (h.1 97 (omega arith), (h.1 116 (omega arith), (h.1 101 (omega arith), tt))))))
verb_unbroken ends (Modify key version) h = (h.1 109 (omega arith), (h.1 111 (omega arith), (h.1 100 (omega arith), (h.1 105 (omega arith), (h.1 102 (omega arith), (h.1 121 (omega arith), tt))))))
verb_unbroken ends (Delete key version) h = (h.1 100 (omega arith), (h.1 101 (omega arith), (h.1 108 (omega arith), (h.1 101 (omega arith), (h.1 116 (omega arith), (h.1 101 (omega arith), tt))))))

others_unbroken : (ends : ℕ → Bool) (a : Answer) → SparesWords ends → AllUnbroken ends (others_of a)
others_unbroken ends (Create placeholder id) h =
    (key_unbroken ends placeholder h.0 h.1, (key_unbroken ends (with_id placeholder id) h.0 h.1, ((h.1 118 (omega arith), (h.1 49 (omega arith), tt)), tt)))
others_unbroken ends (Modify key version) h = (key_unbroken ends key h.0 h.1, (version_unbroken ends version h, tt))
others_unbroken ends (Delete key version) h = (key_unbroken ends key h.0 h.1, (version_unbroken ends version h, tt))

-- no byte of the line ends a line
line_unbroken : (ends : ℕ → Bool) (a : Answer) → SparesWords ends → ends 32 ≡ false → Unbroken ends (line_of a)
line_unbroken ends a h space =
    subst (Unbroken ends) (sym (line_is a)) (unbroken_append ends (verb_of a) (spaced (others_of a)) (verb_unbroken ends a h) (unbroken_spaced ends (others_of a) space (others_unbroken ends a h)))

blank_spares : SparesWords is_blank
blank_spares = (refl, λ b least. grind (arith, nat_tests))

words_are : (a : Answer) → AreWords (verb_of a ∷ others_of a)
words_are (Create placeholder id) = (some 99 (codes "reate"), (key_some placeholder, (key_some (with_id placeholder id), (some 118 (49 ∷ []), tt))))
words_are (Modify key version) = (some 109 (codes "odify"), (key_some key, (some 118 (decimal version), tt)))
words_are (Delete key version) = (some 100 (codes "elete"), (key_some key, (some 118 (decimal version), tt)))

words_again : (a : Answer) → words_of (line_of a) ≡ verb_of a ∷ others_of a
words_again a =
    ap words_of (line_is a) ∙ ap (filter has_byte) (cut_spaced (verb_of a) (others_of a) (verb_unbroken is_blank a blank_spares) (others_unbroken is_blank a blank_spares)) ∙ all_words (verb_of a ∷ others_of a) (words_are a)

-- ---- the ends of the line

-- the bytes end with another one than these
record EndsApart (ends : ℕ → Bool) (bytes : List ℕ) : Type 0 where
  some : 0 < length bytes
  last : ends (slice_index bytes (length bytes - 1)) ≡ false

ends_unbroken : (ends : ℕ → Bool) (byte : ℕ) (bytes : List ℕ) → Unbroken ends (byte ∷ bytes) → EndsApart ends (byte ∷ bytes)
ends_unbroken ends byte bytes h = record { some = omega arith; last = unbroken_at ends (byte ∷ bytes) (length (byte ∷ bytes) - 1) h (omega arith) }

ends_more : (ends : ℕ → Bool) (byte : ℕ) (bytes : List ℕ) → EndsApart ends bytes → EndsApart ends (byte ∷ bytes)
ends_more ends byte bytes h =
    let at : length (byte ∷ bytes) - 1 ≡ suc (length bytes - 1) = omega (arith, h.some) in
    record { some = omega arith; last = ap (λ (k : ℕ). ends (slice_index (byte ∷ bytes) k)) at ∙ h.last }

ends_behind : (ends : ℕ → Bool) (a b : List ℕ) → EndsApart ends b → EndsApart ends (a ++ b)
ends_behind ends [] b h = h
ends_behind ends (byte ∷ a) b h = ends_more ends byte (a ++ b) (ends_behind ends a b h)

-- the last word isn't empty
version_ends : (n : ℕ) → EndsApart is_blank ((118 ∷ decimal n) ++ [])
version_ends n = ends_unbroken is_blank 118 (decimal n ++ []) (unbroken_append is_blank (118 ∷ decimal n) [] (version_unbroken is_blank n blank_spares) tt)

line_ends : (a : Answer) → EndsApart is_blank (line_of a)
line_ends (Create placeholder id) =
    ends_behind is_blank (codes "create") _ (ends_more is_blank 32 _ (ends_behind is_blank (key_written placeholder) _ (ends_more is_blank 32 _
    (ends_behind is_blank (key_written (with_id placeholder id)) _ (ends_more is_blank 32 _ (ends_unbroken is_blank 118 (49 ∷ []) (refl, (refl, tt))))))))
line_ends (Modify key version) =
    ends_behind is_blank (codes "modify") _ (ends_more is_blank 32 _ (ends_behind is_blank (key_written key) _ (ends_more is_blank 32 _ (version_ends version))))
line_ends (Delete key version) =
    ends_behind is_blank (codes "delete") _ (ends_more is_blank 32 _ (ends_behind is_blank (key_written key) _ (ends_more is_blank 32 _ (version_ends version))))

pub line_not_skipped : (a : Answer) → is_skipped (line_of a) ≡ false
line_not_skipped (Create placeholder id) = refl
line_not_skipped (Modify key version) = refl
line_not_skipped (Delete key version) = refl

begins_apart : (a : Answer) → is_blank (slice_index (line_of a) 0) ≡ false
begins_apart (Create placeholder id) = refl
begins_apart (Modify key version) = refl
begins_apart (Delete key version) = refl

no_outer_blank : (a : Answer) → has_outer_blank (line_of a) ≡ false
no_outer_blank a = rw (begins_apart a, (line_ends a).last) refl

pub line_freed : (a : Answer) → freed (line_of a) ≡ line_of a
line_freed a = freed_same (line_of a) (line_unbroken (is 13) a (refl, λ b least. grind (arith, nat_tests)) refl)

no_lf : (bytes : List ℕ) → Unbroken (is 10) bytes → has_lf bytes ≡ false
no_lf [] h = refl
no_lf (b ∷ bytes) h =
    let other : (b == 10) ≡ false = grind (arith, nat_tests, h.0) in
    rw (other, no_lf bytes h.1) refl

pub line_no_lf : (a : Answer) → has_lf (line_of a) ≡ false
line_no_lf a = no_lf (line_of a) (line_unbroken (is 10) a (refl, λ b least. grind (arith, nat_tests)) refl)

-- ---- the answer

version_again : (n : ℕ) → 1 ≤ n → n ≤ 2000000000 → version_word (118 ∷ decimal n) ≡ Some n
unfolding version_word
version_again n least most =
    let small : n < 2 ^ 64 = omega arith in
    let digits : number_text 10 (decimal n) ≡ Some n = number_again 10 n (omega arith) (omega arith) small in
    let first : begins_with_0 (decimal n) ≡ false = grind (arith, nat_tests, first_decimal n (omega arith) small) in
    let fits : nat_lt 2000000000 n ≡ false = grind (arith, nat_tests) in
    rw (digits, first, fits) refl

words_answer : (a : Answer) → IsTold a → by_first all_answers (verb_of a ∷ others_of a) ≡ Some a
unfolding id_word
words_answer (Create placeholder id) h =
    let kind : has_kind_of placeholder (with_id placeholder id) ≡ true = key_itself (with_id placeholder id) in
    rw (key_again placeholder h.0, key_again (with_id placeholder id) h.1, kind) refl
words_answer (Modify key version) h = rw (key_again key h.0, version_again version h.1 h.2) refl
words_answer (Delete key version) h = rw (key_again key h.0, version_again version h.1 h.2) refl

-- The line of an answer gives that answer.
pub line_again : (a : Answer) → IsTold a → answer_of (line_of a) ≡ Some a
line_again a h = rw (no_outer_blank a) (ap (by_first all_answers) (words_again a) ∙ words_answer a h)
