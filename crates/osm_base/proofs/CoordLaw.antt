use Rattle.std.proofs.Common.{◌≡◌, ℕ, ℤ, zero, suc, pos, negsuc, ◌+◌, ◌-◌, ◌*◌, ◌/◌, ◌%◌, ◌^◌, ◌<◌, ◌≤◌, true, false, List, ◌∷◌, ◌++◌, Some, None, length, get_or, refl, sym, ◌∙◌, ap, arith, eqb, ltb, inl, inr, length-append, add-one}
use Rattle.std.specs.Prelude.{unsigned_abs}
use Rattle.std.specs.List.{list_all, position, position_or_len}
use Rattle.std.specs.Char.{is_ascii_digit, digit_value}
use Rattle.std.specs.Str.Parse.{digits_value, digits_value_after}
use Rattle.std.specs.Fmt.{decimal}
use Rattle.std.proofs.Math.Nat.{eq-zero-or-pos}
use Rattle.std.proofs.lemmas.List.Sums.{position_or_len_is}
use Rattle.std.proofs.lemmas.Str.Parse.{digit_at}
use Rattle.std.proofs.lemmas.Bool.{lt-ltb, le-ltb}
use Rattle.std.proofs.Math.ListN.{get_or-append}
use Rattle.std.proofs.Math.Seq.{get_or-append_seam, take-append_seam, drop-append-add}
use Rattle.std.proofs.lemmas.List.{append-nil}
use Rattle.std.proofs.lemmas.Grind.{pow_more}
use Rattle.std.proofs.lemmas.Str.{digit_value_digit}
use Rattle.std.proofs.lemmas.Fmt.{digits_decimal, decimal_nonempty}
use Rattle.std.proofs.lemmas.Bool.Decides.{nat_tests}
use Rattle.osm_base.specs.Number.{number_text}
use Rattle.osm_base.specs.Coord.{part_text, whole_text, pointed_text, size_text, coord_text, places_of, size_written, coord_written}
use Rattle.osm_base.proofs.Digits.{own}
use Rattle.osm_base.proofs.KeyLaw.{number_again, number_holds, no_minus}
use Rattle.osm_base.proofs.Places.{places_more, digit_below, unit_some}

one_more : (k n : ℕ) → 0 < n → n < 10 ^ suc k → (places_of (suc k) n ≡ (48 + n / 10 ^ k) ∷ places_of k (n % 10 ^ k)) × (n / 10 ^ k < 10)
one_more k n p h =
    let e : suc k - 1 ≡ k = omega arith in
    let f : 48 + n / 10 ^ (suc k - 1) ≡ 48 + n / 10 ^ k = ap (λ j. 48 + n / 10 ^ j) e in
    let d : n / 10 ^ (suc k - 1) < 10 = digit_below (suc k) n p h in
    (places_more (suc k) n p h ∙ ap (λ j. (48 + n / 10 ^ j) ∷ places_of j (n % 10 ^ j)) e, rw e at d)

digit_back : (q : ℕ) → q < 10 → digit_value (48 + q) ≡ q
digit_back q h = let e = digit_value_digit (48 + q) (omega arith, omega arith) in omega arith

horner : (a q r p n : ℕ) → p * q + r ≡ n → (a * 10 + q) * p + r ≡ a * (p * 10) + n
horner a q r p n e = omega arith

-- the places spell their number, after the digits of a
value_places : (k n a : ℕ) → n < 10 ^ k → digits_value_after 10 a (places_of k n) * 10 ^ (k - length (places_of k n)) ≡ a * 10 ^ k + n
unfolding places_of
value_places zero n a h = omega arith
value_places (suc k) n a h =
    elim (eq-zero-or-pos n) [
      | inl z ↦ let e : suc k - 0 ≡ suc k = omega arith in rw (z, e) (omega arith)
      | inr p ↦
          let m = one_more k n p h in
          let rest = value_places k (n % 10 ^ k) (a * 10 + n / 10 ^ k) (omega (arith, unit_some k)) in
          let e : suc k - suc (length (places_of k (n % 10 ^ k))) ≡ k - length (places_of k (n % 10 ^ k)) = omega arith in
          let ds = places_of k (n % 10 ^ k) in
          let q : digits_value_after 10 a ((48 + n / 10 ^ k) ∷ ds) ≡ digits_value_after 10 (a * 10 + n / 10 ^ k) ds = ap (λ d. digits_value_after 10 (a * 10 + d) ds) (digit_back (n / 10 ^ k) m.1) in
          rw (m.0, q, e, rest) (horner a (n / 10 ^ k) (n % 10 ^ k) (10 ^ k) n (omega (arith, unit_some k)) ∙ ap (λ t. a * t + n) (sym (pow_more 10 k) ∙ ap (λ j. 10 ^ j) (add-one k)))
    ]

pub record IsPlaces (k : ℕ) (ds : List ℕ) : Type 0 where
  pub short : length ds ≤ k
  pub digits : list_all is_ascii_digit ds ≡ true

digit_is : (q : ℕ) → q < 10 → is_ascii_digit (48 + q) ≡ true
digit_is q h = grind (arith, nat_tests)

pub places_digits : (k n : ℕ) → n < 10 ^ k → IsPlaces k (places_of k n)
unfolding places_of
places_digits zero n h = record { short = omega arith; digits = refl }
places_digits (suc k) n h =
    elim (eq-zero-or-pos n) [
      | inl z ↦ rw z (record { short = omega arith; digits = refl })
      | inr p ↦
          let m = one_more k n p h in
          let rest = places_digits k (n % 10 ^ k) (omega (arith, unit_some k)) in
          rw m.0 (record { short = omega (arith, rest.short); digits = rw (digit_is (n / 10 ^ k) m.1) rest.digits })
    ]

part_again : (n : ℕ) → 0 < n → n < 10 ^ 7 → part_text (places_of 7 n) ≡ Some n
unfolding part_text number_text
part_again n p h =
    let m = one_more 6 n p h in
    let d = places_digits 7 n h in
    let v : digits_value 10 (places_of 7 n) * 10 ^ (7 - length (places_of 7 n)) ≡ n = omega (arith, value_places 7 n 0 h) in
    rw (number_holds 7 (places_of 7 n) (rw m.0 (omega arith)) d.short d.digits) (ap Some v)

whole_again : (n : ℕ) → n < 1000 → whole_text (decimal n) ≡ Some (n * 10000000)
unfolding whole_text
whole_again n h = rw (number_again 3 n (omega arith) (omega arith) (omega arith)) refl

pub not_point : (xs : List ℕ) (k : ℕ) → list_all is_ascii_digit xs ≡ true → k < length xs → eqb (get_or xs k 0) 46 ≡ false
not_point xs k h l = let d = digit_at xs k (own.to xs h) l in grind (arith, nat_tests, d)

-- the first point after bytes that are none
pub point_at : (xs ys : List ℕ) → list_all is_ascii_digit xs ≡ true → position_or_len (λ b. eqb b 46) (xs ++ 46 ∷ ys) ≡ length xs
point_at xs ys h =
    position_or_len_is (λ b. eqb b 46) (xs ++ 46 ∷ ys) (length xs) 0 (omega (arith, length-append xs (46 ∷ ys)))
    (λ k l. rw (get_or-append xs (46 ∷ ys) 0 k l) (not_point xs k h l))
    (λ l. rw (get_or-append_seam xs 46 ys 0) refl)

pub point_after : (xs ys : List ℕ) → list_all is_ascii_digit xs ≡ true → position (λ b. eqb b 46) (xs ++ 46 ∷ ys) ≡ Some (length xs)
point_after xs ys h =
    let t : ltb (length xs) (length (xs ++ 46 ∷ ys)) ≡ true = lt-ltb _ _ (omega (arith, length-append xs (46 ∷ ys))) in
    rw (point_at xs ys h, t) refl

pub no_point : (xs : List ℕ) → list_all is_ascii_digit xs ≡ true → position (λ b. eqb b 46) xs ≡ None
no_point xs h =
    let e : position_or_len (λ b. eqb b 46) xs ≡ length xs = position_or_len_is (λ b. eqb b 46) xs (length xs) 0 (omega arith) (λ k l. not_point xs k h l) (λ l. absurd (omega arith)) in
    let t : ltb (length xs) (length xs) ≡ false = le-ltb _ _ (omega arith) in
    rw (e, t) refl

-- what is written of n, without and with a fraction
whole_size : (n : ℕ) → n < 10 ^ 10 → n % 10000000 ≡ 0 → size_text (decimal (n / 10000000)) ≡ Some n
unfolding size_text
whole_size n h z =
    rw (no_point (decimal (n / 10000000)) (digits_decimal own (n / 10000000) (omega arith)), whole_again (n / 10000000) (omega arith))
    (ap Some (omega arith))

pointed_again : (w p : ℕ) → w < 1000 → 0 < p → p < 10 ^ 7 → pointed_text (decimal w) (places_of 7 p) ≡ Some (w * 10000000 + p)
unfolding pointed_text
pointed_again w p h l m = rw (whole_again w h, part_again p l m) refl

pub pointed_size : (xs ys : List ℕ) → list_all is_ascii_digit xs ≡ true → size_text (xs ++ 46 ∷ ys) ≡ pointed_text xs ys
unfolding size_text
pointed_size xs ys h =
    rw (point_after xs ys h, take-append_seam xs (46 ∷ ys), drop-append-add xs (46 ∷ ys) 1) refl

size_again : (n : ℕ) → n < 10 ^ 10 → size_text (size_written n) ≡ Some n
unfolding size_written
size_again n h =
    elim (eq-zero-or-pos (n % 10000000)) [
      | inl z ↦ rw (z, append-nil (decimal (n / 10000000))) (whole_size n h z)
      | inr p ↦
          let f : eqb (n % 10000000) 0 ≡ false = grind (arith, nat_tests) in
          let s : n / 10000000 * 10000000 + n % 10000000 ≡ n = omega arith in
          rw f (pointed_size (decimal (n / 10000000)) (places_of 7 (n % 10000000)) (digits_decimal own (n / 10000000) (omega arith))
          ∙ pointed_again (n / 10000000) (n % 10000000) (omega arith) p (omega arith) ∙ ap Some s)
    ]

no_sign : (n : ℕ) → n < 10 ^ 10 → eqb (get_or (size_written n) 0 0) 45 ≡ false
unfolding size_written
no_sign n h = rw (get_or-append (decimal (n / 10000000)) _ 0 0 (decimal_nonempty (n / 10000000) (omega arith))) (no_minus (n / 10000000) (omega arith))

pub coord_again : (z : ℤ) → unsigned_abs z < 10 ^ 10 → coord_text (coord_written z) ≡ Some z
unfolding coord_text
coord_again (pos n) h = rw (no_sign n h, size_again n h) refl
coord_again (negsuc n) h = rw (size_again (suc n) h) refl
