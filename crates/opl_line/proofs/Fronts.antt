-- Numbers at the front of bytes.
use Rattle.std.proofs.Common.{◌≡◌, ℕ, suc, ◌<◌, ◌≤◌, ◌+◌, ◌-◌, ◌*◌, ◌^◌, Bool, true, false, cond, List, [], ◌∷◌, length, get_or, take, drop, Option, Some, None, Ok, refl, sym, ap, ◌∙◌, arith}
use Rattle.std.specs.Prelude.{◌==◌, ◌&&◌, ◌||◌, not, nat_le, nat_lt}
use Rattle.std.specs.List.{list_all}
use Rattle.std.specs.Char.{is_ascii_digit, digit_value}
use Rattle.std.specs.Str.Parse.{digits_value, digits_value_after}
use Rattle.std.proofs.Math.Nat.{pow-le-pow_right}
use Rattle.std.proofs.Math.Seq.{take-length}
use Rattle.std.proofs.lemmas.Bool.{and_parts}
use Rattle.std.proofs.lemmas.Bool.Decides.{nat_tests}
use Rattle.std.proofs.lemmas.Grind.{pow_more}
use Rattle.std.proofs.lemmas.Str.{digit_value_digit}
use Rattle.osm_base.specs.Number.{number_test, number_text, kind_letter}
use Rattle.osm_base.specs.declared.key.Kind.{Kind}
use Rattle.opl_line.specs.declared.mode.Mode.{Mode}
use Rattle.opl_line.specs.Reads.{◌>>=◌}
use Rattle.opl_line.specs.Line.{is_blank, id_at, key_at}
use Rattle.opl_line.specs.Cut.{is_one_of, onto_first, before, after, split}
use Rattle.opl_line.specs.Front.{front_digits, behind_digits, ended, is_apart}

-- ---- pieces

-- the pieces behind the first one
abbrev pub pieces_behind : (ℕ → Bool) → Option (List ℕ) → List (List ℕ)
pieces_behind ends None = []
pieces_behind ends (Some rest) = split ends rest

onto_before : (ends : ℕ → Bool) (b : ℕ) (bytes : List ℕ) (t : Bool) → split ends bytes ≡ before ends bytes ∷ pieces_behind ends (after ends bytes) →
    cond t ([] ∷ split ends bytes) (onto_first b (split ends bytes)) ≡ cond t [] (b ∷ before ends bytes) ∷ pieces_behind ends (cond t (Some bytes) (after ends bytes))
onto_before ends b bytes true e = refl
onto_before ends b bytes false e = rw e refl

-- bytes are cut into what is before the first separator and what the bytes behind it are cut into
pub split_front : (ends : ℕ → Bool) (bytes : List ℕ) → split ends bytes ≡ before ends bytes ∷ pieces_behind ends (after ends bytes)
split_front ends [] = refl
split_front ends (b ∷ bytes) = onto_before ends b bytes (ends b) (split_front ends bytes)

shorter_case : (bytes rest : List ℕ) (t : Bool) (o : Option (List ℕ)) → (o ≡ Some rest → length rest < length bytes) → cond t (Some bytes) o ≡ Some rest → length rest < suc (length bytes)
shorter_case bytes rest true o h e = let same : bytes ≡ rest = cc in omega (arith, ap (λ xs. length xs) same)
shorter_case bytes rest false o h e = omega (arith, h e)

-- the bytes behind a separator are fewer
pub behind_shorter : (ends : ℕ → Bool) (bytes rest : List ℕ) → after ends bytes ≡ Some rest → length rest < length bytes
behind_shorter ends [] rest e = absurd cc
behind_shorter ends (b ∷ bytes) rest e = shorter_case bytes rest (ends b) (after ends bytes) (behind_shorter ends bytes rest) e

-- ---- digits

pub record IsPiece (ends : ℕ → Bool) (bytes piece : List ℕ) (rest : Option (List ℕ)) : Type 0 where
  pub before_is : before ends bytes ≡ piece
  pub after_is : after ends bytes ≡ rest

abbrev pub SparesNumbers : (ℕ → Bool) → Type 0
SparesNumbers ends = (b : ℕ) → is_ascii_digit b ≡ true → ends b ≡ false

apart_from : (d a : ℕ) → is_ascii_digit d ≡ true → is_apart a ≡ true → (d == a) ≡ false
apart_from d a digit apart = let p = and_parts (not (is_ascii_digit a)) (not (a == 45)) apart in grind (arith, nat_tests, digit, p.0)

-- separators that stand in no number
pub spares_numbers : (a b : ℕ) → is_apart a ≡ true → is_apart b ≡ true → SparesNumbers (is_one_of a b)
spares_numbers a b p q d digit = rw (apart_from d a digit p, apart_from d b digit q) refl

pub ended_at : (ends : ℕ → Bool) (b : ℕ) (bytes : List ℕ) (rest : Option (List ℕ)) (s : Bool) → cond s (Some (Some bytes)) None ≡ Some rest → (cond s [] (b ∷ before ends bytes) ≡ []) × (cond s (Some bytes) (after ends bytes) ≡ rest)
ended_at ends b bytes rest true e = (refl, cc)
ended_at ends b bytes rest false e = absurd cc

whole_case : (ends : ℕ → Bool) (most b : ℕ) (bytes : List ℕ) (rest : Option (List ℕ)) (t : Bool) → SparesNumbers ends → (nat_lt 0 most && is_ascii_digit b) ≡ t →
    (ended ends (behind_digits (most - 1) bytes) ≡ Some rest → IsPiece ends bytes (front_digits (most - 1) bytes) rest) →
    ended ends (cond t (behind_digits (most - 1) bytes) (b ∷ bytes)) ≡ Some rest → IsPiece ends (b ∷ bytes) (cond t (b ∷ front_digits (most - 1) bytes) []) rest
whole_case ends most b bytes rest true spares is more e =
    let d = and_parts (nat_lt 0 most) (is_ascii_digit b) is in
    let p = more e in
    record { before_is = rw (spares b d.1) (ap (λ xs. b ∷ xs) p.before_is); after_is = rw (spares b d.1) p.after_is }
whole_case ends most b bytes rest false spares is more e =
    let p = ended_at ends b bytes rest (ends b) e in
    record { before_is = p.0; after_is = p.1 }

-- digits that a separator or the end follows are the first piece
pub whole_piece : (ends : ℕ → Bool) (most : ℕ) (bytes : List ℕ) (rest : Option (List ℕ)) → SparesNumbers ends → ended ends (behind_digits most bytes) ≡ Some rest → IsPiece ends bytes (front_digits most bytes) rest
whole_piece ends most [] rest spares e = record { before_is = refl; after_is = cc }
whole_piece ends most (b ∷ bytes) rest spares e =
    whole_case ends most b bytes rest (nat_lt 0 most && is_ascii_digit b) spares refl (whole_piece ends (most - 1) bytes rest spares) e

-- at most so many bytes, each a digit
abbrev are_digits : ℕ → List ℕ → Bool
are_digits most text = nat_le (length text) most && list_all is_ascii_digit text

front_case : (most b : ℕ) (front : List ℕ) (t : Bool) → (nat_lt 0 most && is_ascii_digit b) ≡ t → are_digits (most - 1) front ≡ true → are_digits most (cond t (b ∷ front) []) ≡ true
front_case most b front true is h =
    let d = and_parts (nat_lt 0 most) (is_ascii_digit b) is in
    let p = and_parts (nat_le (length front) (most - 1)) (list_all is_ascii_digit front) h in
    let short : nat_le (length (b ∷ front)) most ≡ true = grind (arith, nat_tests, d.0, p.0) in
    rw (short, d.1, p.1) refl
front_case most b front false is h = let short : nat_le 0 most ≡ true = grind (arith, nat_tests) in rw short refl

pub front_are_digits : (most : ℕ) (bytes : List ℕ) → are_digits most (front_digits most bytes) ≡ true
front_are_digits most [] = let short : nat_le 0 most ≡ true = grind (arith, nat_tests) in rw short refl
front_are_digits most (b ∷ bytes) = front_case most b (front_digits (most - 1) bytes) (nat_lt 0 most && is_ascii_digit b) refl (front_are_digits (most - 1) bytes)

test_is : (some short all : Bool) → (short && all) ≡ true → (some && short && all) ≡ some
test_is true true all h = h
test_is false true all h = refl
test_is some false all h = absurd cc

test_fails : (some short all : Bool) → (short && all) ≡ false → (some && short && all) ≡ false
test_fails true true all h = h
test_fails true false all h = refl
test_fails false short all h = refl

-- the digits at the front are a number, if there are any
pub front_number : (most : ℕ) (bytes : List ℕ) → number_test most (front_digits most bytes) ≡ nat_le 1 (length (front_digits most bytes))
front_number most bytes = test_is (nat_le 1 (length (front_digits most bytes))) (nat_le (length (front_digits most bytes)) most) (list_all is_ascii_digit (front_digits most bytes)) (front_are_digits most bytes)

and_false_case : (short digit all : Bool) → digit ≡ true → (short && all) ≡ false → (short && (digit && all)) ≡ false
and_false_case short true all d h = h
and_false_case short false all d h = absurd cc

no_number_case : (most b : ℕ) (piece : List ℕ) (t : Bool) → (nat_lt 0 most && is_ascii_digit b) ≡ t → (t ≡ true → are_digits (most - 1) piece ≡ false) → are_digits most (b ∷ piece) ≡ false
no_number_case most b piece true is more =
    let d = and_parts (nat_lt 0 most) (is_ascii_digit b) is in
    let short : nat_le (length piece) (most - 1) ≡ nat_le (length (b ∷ piece)) most = grind (arith, nat_tests, d.0) in
    and_false_case (nat_le (length (b ∷ piece)) most) (is_ascii_digit b) (list_all is_ascii_digit piece) d.1 (sym (ap (λ s. s && list_all is_ascii_digit piece) short) ∙ more refl)
no_number_case most b piece false is more = grind (arith, nat_tests, is)

not_ended : (bytes : List ℕ) (s : Bool) → cond s (Some (Some bytes)) None ≡ None → s ≡ false
not_ended bytes true e = absurd cc
not_ended bytes false e = refl

goes_case : (ends : ℕ → Bool) (most b : ℕ) (bytes : List ℕ) (t : Bool) → SparesNumbers ends → (nat_lt 0 most && is_ascii_digit b) ≡ t →
    (ended ends (behind_digits (most - 1) bytes) ≡ None → are_digits (most - 1) (before ends bytes) ≡ false) →
    ended ends (cond t (behind_digits (most - 1) bytes) (b ∷ bytes)) ≡ None → are_digits most (before ends (b ∷ bytes)) ≡ false
goes_case ends most b bytes true spares is more e =
    let d = and_parts (nat_lt 0 most) (is_ascii_digit b) is in
    rw (spares b d.1) (no_number_case most b (before ends bytes) true is (λ h. more e))
goes_case ends most b bytes false spares is more e = rw (not_ended bytes (ends b) e) (no_number_case most b (before ends bytes) false is (λ h. absurd cc))

goes_on : (ends : ℕ → Bool) (most : ℕ) (bytes : List ℕ) → SparesNumbers ends → ended ends (behind_digits most bytes) ≡ None → are_digits most (before ends bytes) ≡ false
goes_on ends most [] spares e = absurd cc
goes_on ends most (b ∷ bytes) spares e = goes_case ends most b bytes (nat_lt 0 most && is_ascii_digit b) spares refl (goes_on ends (most - 1) bytes spares) e

-- a piece that goes on behind its first digits is no number
pub no_number : (ends : ℕ → Bool) (most : ℕ) (bytes : List ℕ) → SparesNumbers ends → ended ends (behind_digits most bytes) ≡ None → number_text most (before ends bytes) ≡ None
unfolding number_text
no_number ends most bytes spares e =
    let text = before ends bytes in
    rw (test_fails (nat_le 1 (length text)) (nat_le (length text) most) (list_all is_ascii_digit text) (goes_on ends most bytes spares e)) refl

-- one that ends there is a number, if it has a digit
pub piece_number : (ends : ℕ → Bool) (most : ℕ) (bytes : List ℕ) (rest : Option (List ℕ)) → SparesNumbers ends → ended ends (behind_digits most bytes) ≡ Some rest →
    number_text most (before ends bytes) ≡ cond (nat_le 1 (length (front_digits most bytes))) (Some (digits_value 10 (front_digits most bytes))) None
unfolding number_text
piece_number ends most bytes rest spares e = rw ((whole_piece ends most bytes rest spares e).before_is, front_number most bytes) refl

-- ---- the loop over digits

-- what was read of the digits at the front
pub record Reads (most left value : ℕ) (bytes rest : List ℕ) : Type 0 where
  pub few : left ≤ most
  pub below : value < 10 ^ (most - left)
  pub value_is : digits_value_after 10 value (front_digits left rest) ≡ digits_value 10 (front_digits most bytes)
  pub count_is : (most - left) + length (front_digits left rest) ≡ length (front_digits most bytes)
  pub rest_is : behind_digits left rest ≡ behind_digits most bytes

pub reads_more : (most left value b : ℕ) (bytes more : List ℕ) → Reads most left value bytes (b ∷ more) → 0 < left → is_ascii_digit b ≡ true → Reads most (left - 1) (value * 10 + (b - 48)) bytes more
reads_more most left value b bytes more r some digit =
    let t : nat_lt 0 left ≡ true = grind (arith, nat_tests) in
    let d = digit_value_digit b (grind (arith, nat_tests, digit), grind (arith, nat_tests, digit)) in
    let v : b - 48 ≡ digit_value b = omega (arith, d) in
    let under : b < 58 = grind (arith, nat_tests, digit) in
    let few : left ≤ most = r.few in
    let p : most - (left - 1) ≡ (most - left) + 1 = omega (arith, few) in
    record {
      few = omega (arith, few);
      below = rw (p, pow_more 10 (most - left)) (omega (arith, r.below, under));
      value_is = rw v (rw (t, digit) at r.value_is);
      count_is = rw p (omega (arith, rw (t, digit) at r.count_is));
      rest_is = rw (t, digit) at r.rest_is;
    }

-- the first of some bytes is read, and the others are left
pub reads_next : (most left value : ℕ) (bytes rest : List ℕ) → Reads most left value bytes rest → 1 ≤ length rest → 0 < left → is_ascii_digit (get_or rest 0 0) ≡ true →
    Reads most (left - 1) (value * 10 + (get_or rest 0 0 - 48)) bytes (take (length rest - 1) (drop 1 rest))
reads_next most left value bytes [] r more some digit = absurd (omega arith)
reads_next most left value bytes (b ∷ rest) r more some digit =
    let at : length (b ∷ rest) - 1 ≡ length rest = omega arith in
    rw (at, take-length rest) (reads_more most left value b bytes rest r some digit)

pub reads_below : (most left value : ℕ) (bytes rest : List ℕ) → Reads most left value bytes rest → value < 10 ^ most
reads_below most left value bytes rest r = omega (arith, r.below, pow-le-pow_right {n = 10} (omega arith) {i = most - left} {j = most} (omega arith))

-- so it fits
pub reads_fits : (most left value : ℕ) (bytes rest : List ℕ) → Reads most left value bytes rest → most ≤ 19 → 1 ≤ length rest → 0 < left → is_ascii_digit (get_or rest 0 0) ≡ true →
    value * 10 + (get_or rest 0 0 - 48) < 10 ^ 19
reads_fits most left value bytes rest r few more some digit =
    let n = reads_next most left value bytes rest r more some digit in
    omega (arith, reads_below most (left - 1) _ bytes _ n, pow-le-pow_right {n = 10} (omega arith) {i = most} {j = 19} few)

-- ---- lines

blank_case : (b : ℕ) (kind : Kind) (space tab : Bool) → (space ≡ true → b ≡ 32) → (tab ≡ true → b ≡ 9) → kind_letter b ≡ Some kind → (space || tab) ≡ false
unfolding kind_letter
blank_case b kind true tab s t e = let none : None ≡ Some kind = rw (s refl) at e in absurd cc
blank_case b kind false true s t e = let none : None ≡ Some kind = rw (t refl) at e in absurd cc
blank_case b kind false false s t e = refl

-- a letter of a kind is no blank
pub kind_no_blank : (b : ℕ) (kind : Kind) → kind_letter b ≡ Some kind → is_blank b ≡ false
kind_no_blank b kind e = blank_case b kind (b == 32) (b == 9) (λ h. grind (arith, nat_tests, h)) (λ h. grind (arith, nat_tests, h)) e

-- the first field is its letter and an id, which ends where the field does
pub key_reads : (mode : Mode) (line : List ℕ) (kind : Kind) → 1 ≤ length line → kind_letter (get_or line 0 0) ≡ Some kind →
    key_at mode (before is_blank line) ≡ (id_at mode (before is_blank (take (length line - 1) (drop 1 line))) >>= λ id. Ok (record { kind = kind; id = id }))
unfolding key_at
key_reads mode [] kind more e = absurd (omega arith)
key_reads mode (b ∷ text) kind more e =
    let at : length (b ∷ text) - 1 ≡ length text = omega arith in
    rw (at, take-length text, kind_no_blank b kind e, e) refl

pub key_leaves : (line : List ℕ) (kind : Kind) → 1 ≤ length line → kind_letter (get_or line 0 0) ≡ Some kind → after is_blank line ≡ after is_blank (take (length line - 1) (drop 1 line))
key_leaves [] kind more e = absurd (omega arith)
key_leaves (b ∷ text) kind more e =
    let at : length (b ∷ text) - 1 ≡ length text = omega arith in
    rw (at, take-length text, kind_no_blank b kind e) refl

pub ruleset fronts = (whole_piece, no_number, piece_number, spares_numbers)
