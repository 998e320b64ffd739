-- A time that was read is written so again.
use Rattle.std.proofs.Common.{◌≡◌, ℕ, ◌+◌, ◌*◌, ◌/◌, ◌<◌, true, false, ◌&&◌, List, [], ◌∷◌, length, Option, Some, None, refl, subst, ap, ◌∙◌, arith}
use Rattle.std.specs.Prelude.{◌==◌}
use Rattle.std.specs.Option.{option_map}
use Rattle.std.specs.Char.{is_ascii_digit, digit_value}
use Rattle.std.proofs.lemmas.Bool.{and_parts}
use Rattle.std.proofs.lemmas.Bool.Decides.{nat_tests}
use Rattle.std.proofs.lemmas.Option.{same_Some}
use Rattle.osm_base.specs.Number.{number_text, number_test}
use Rattle.osm_base.specs.declared.meta.Stamp.{Stamp}
use Rattle.osm_base.proofs.Tests.{only_passed}
use Rattle.opl_text.specs.Time.{◌>>=◌, has_marks, is_time, IsTime, last_digit, parts_of, stamp_text, time_text, time_written}

digit_is : (b : ℕ) → is_ascii_digit b ≡ true → digit_value b + 48 ≡ b
digit_is b digit = grind (arith, nat_tests, digit)

digit_small : (b : ℕ) → is_ascii_digit b ≡ true → digit_value b < 10
digit_small b digit = grind (arith, nat_tests, digit)

-- Two digits, and four, that were read.
record Two (a b n : ℕ) : Type 0 where
  tens : a ≡ last_digit (n / 10)
  ones : b ≡ last_digit n

two_back : (a b n : ℕ) → number_text 2 (a ∷ b ∷ []) ≡ Some n → Two a b n
unfolding number_text
two_back a b n e =
    let p = only_passed (number_test 2 (a ∷ b ∷ [])) _ n e in
    let all : is_ascii_digit a && (is_ascii_digit b && true) ≡ true = p.0 in
    let first = and_parts (is_ascii_digit a) (is_ascii_digit b && true) all in
    let second = and_parts (is_ascii_digit b) true first.1 in
    let value : (0 * 10 + digit_value a) * 10 + digit_value b ≡ n = same_Some _ n p.1 in
    record {
      tens = omega (arith, digit_is a first.0, digit_is b second.0, digit_small a first.0, digit_small b second.0, value);
      ones = omega (arith, digit_is a first.0, digit_is b second.0, digit_small a first.0, digit_small b second.0, value);
    }

record Four (a b c d n : ℕ) : Type 0 where
  thousands : a ≡ last_digit (n / 1000)
  hundreds : b ≡ last_digit (n / 100)
  tens : c ≡ last_digit (n / 10)
  ones : d ≡ last_digit n

four_digits : (a b c d v w x y n : ℕ) → v + 48 ≡ a → w + 48 ≡ b → x + 48 ≡ c → y + 48 ≡ d → v < 10 → w < 10 → x < 10 → y < 10 → (((0 * 10 + v) * 10 + w) * 10 + x) * 10 + y ≡ n → Four a b c d n
four_digits a b c d v w x y n av bw cx dy vs ws xs ys value = record {
  thousands = omega (arith, av, vs, ws, xs, ys, value);
  hundreds = omega (arith, bw, vs, ws, xs, ys, value);
  tens = omega (arith, cx, vs, ws, xs, ys, value);
  ones = omega (arith, dy, vs, ws, xs, ys, value);
}

four_back : (a b c d n : ℕ) → number_text 4 (a ∷ b ∷ c ∷ d ∷ []) ≡ Some n → Four a b c d n
unfolding number_text
four_back a b c d n e =
    let p = only_passed (number_test 4 (a ∷ b ∷ c ∷ d ∷ [])) _ n e in
    let all : is_ascii_digit a && (is_ascii_digit b && (is_ascii_digit c && (is_ascii_digit d && true))) ≡ true = p.0 in
    let first = and_parts (is_ascii_digit a) _ all in
    let second = and_parts (is_ascii_digit b) _ first.1 in
    let third = and_parts (is_ascii_digit c) _ second.1 in
    let fourth = and_parts (is_ascii_digit d) true third.1 in
    let value : (((0 * 10 + digit_value a) * 10 + digit_value b) * 10 + digit_value c) * 10 + digit_value d ≡ n = same_Some _ n p.1 in
    four_digits a b c d (digit_value a) (digit_value b) (digit_value c) (digit_value d) n
    (digit_is a first.0) (digit_is b second.0) (digit_is c third.0) (digit_is d fourth.0)
    (digit_small a first.0) (digit_small b second.0) (digit_small c third.0) (digit_small d fourth.0) value

-- The marks.
mark_is : (b mark : ℕ) → (b == mark) ≡ true → b ≡ mark
mark_is b mark e = grind (arith, nat_tests, e)

read_both : {A B : Type 0} (f : A → Option B) (o : Option A) (y : B) → (o >>= f) ≡ Some y → (x : A) × (o ≡ Some x) × (f x ≡ Some y)
read_both f None y e = absurd cc
read_both f (Some x) y e = (x, refl, e)

-- The parts.
abbrev IsBack : List ℕ → Stamp → Type 0
IsBack text s = (text ≡ time_written (Some s)) × (is_time s ≡ true)

module _ (y1 y2 y3 y4 m1 n1 n2 m2 d1 d2 m3 h1 h2 m4 i1 i2 m5 s1 s2 m6 : ℕ) where
  abbrev twenty : List ℕ
  twenty = y1 ∷ y2 ∷ y3 ∷ y4 ∷ m1 ∷ n1 ∷ n2 ∷ m2 ∷ d1 ∷ d2 ∷ m3 ∷ h1 ∷ h2 ∷ m4 ∷ i1 ∷ i2 ∷ m5 ∷ s1 ∷ s2 ∷ m6 ∷ []

  parts_back : (s : Stamp) → parts_of twenty ≡ Some s → Four y1 y2 y3 y4 s.year × Two n1 n2 s.month × Two d1 d2 s.day × Two h1 h2 s.hour × Two i1 i2 s.minute × Two s1 s2 s.second
  unfolding parts_of
  parts_back s e =
      let year = read_both _ (number_text 4 (y1 ∷ y2 ∷ y3 ∷ y4 ∷ [])) s e in
      let month = read_both _ (number_text 2 (n1 ∷ n2 ∷ [])) s year.2 in
      let day = read_both _ (number_text 2 (d1 ∷ d2 ∷ [])) s month.2 in
      let hour = read_both _ (number_text 2 (h1 ∷ h2 ∷ [])) s day.2 in
      let minute = read_both _ (number_text 2 (i1 ∷ i2 ∷ [])) s hour.2 in
      let second = read_both _ (number_text 2 (s1 ∷ s2 ∷ [])) s minute.2 in
      let is = same_Some _ s second.2 in
      subst (λ (t : Stamp). Four y1 y2 y3 y4 t.year × Two n1 n2 t.month × Two d1 d2 t.day × Two h1 h2 t.hour × Two i1 i2 t.minute × Two s1 s2 t.second) is
      (four_back y1 y2 y3 y4 year.0 year.1, two_back n1 n2 month.0 month.1, two_back d1 d2 day.0 day.1, two_back h1 h2 hour.0 hour.1, two_back i1 i2 minute.0 minute.1, two_back s1 s2 second.0 second.1)

  marks_back : has_marks twenty ≡ true → (m1 ≡ 45) × (m2 ≡ 45) × (m3 ≡ 84) × (m4 ≡ 58) × (m5 ≡ 58) × (m6 ≡ 90)
  unfolding has_marks
  marks_back e =
      let six : (m1 == 45) && (m2 == 45) && (m3 == 84) && (m4 == 58) && (m5 == 58) && (m6 == 90) ≡ true = e in
      let last = and_parts ((m1 == 45) && (m2 == 45) && (m3 == 84) && (m4 == 58) && (m5 == 58)) (m6 == 90) six in
      let fifth = and_parts ((m1 == 45) && (m2 == 45) && (m3 == 84) && (m4 == 58)) (m5 == 58) last.0 in
      let fourth = and_parts ((m1 == 45) && (m2 == 45) && (m3 == 84)) (m4 == 58) fifth.0 in
      let third = and_parts ((m1 == 45) && (m2 == 45)) (m3 == 84) fourth.0 in
      let first = and_parts (m1 == 45) (m2 == 45) third.0 in
      (mark_is m1 45 first.0, mark_is m2 45 first.1, mark_is m3 84 third.1, mark_is m4 58 fourth.1, mark_is m5 58 fifth.1, mark_is m6 90 last.1)

  twenty_back : (s : Stamp) → stamp_text twenty ≡ Some s → IsBack twenty s
  unfolding stamp_text time_written
  twenty_back s e =
      let marked = only_passed (has_marks twenty) _ s e in
      let read = read_both _ (parts_of twenty) s marked.1 in
      let timed = only_passed (is_time read.0) (Some read.0) s read.2 in
      let is = same_Some read.0 s timed.1 in
      let m = marks_back marked.0 in
      let p = parts_back read.0 read.1 in
      subst (IsBack twenty) is ((λ i. p.0.thousands i ∷ p.0.hundreds i ∷ p.0.tens i ∷ p.0.ones i ∷ m.0 i ∷ p.1.tens i ∷ p.1.ones i ∷ m.1 i ∷ p.2.tens i ∷ p.2.ones i ∷ m.2 i ∷ p.3.tens i ∷ p.3.ones i ∷ m.3 i ∷ p.4.tens i ∷ p.4.ones i ∷ m.4 i ∷ p.5.tens i ∷ p.5.ones i ∷ m.5 i ∷ []), timed.0)

other_length : (text : List ℕ) (s : Stamp) → (length text == 20) ≡ false → stamp_text text ≡ Some s → ⊥
unfolding stamp_text has_marks
other_length text s e h = let none : has_marks text ≡ false = rw e refl in absurd cc

stamp_back : (text : List ℕ) (s : Stamp) → stamp_text text ≡ Some s → IsBack text s
stamp_back (y1 ∷ y2 ∷ y3 ∷ y4 ∷ m1 ∷ n1 ∷ n2 ∷ m2 ∷ d1 ∷ d2 ∷ m3 ∷ h1 ∷ h2 ∷ m4 ∷ i1 ∷ i2 ∷ m5 ∷ s1 ∷ s2 ∷ m6 ∷ []) s e = twenty_back y1 y2 y3 y4 m1 n1 n2 m2 d1 d2 m3 h1 h2 m4 i1 i2 m5 s1 s2 m6 s e
stamp_back (y1 ∷ y2 ∷ y3 ∷ y4 ∷ m1 ∷ n1 ∷ n2 ∷ m2 ∷ d1 ∷ d2 ∷ m3 ∷ h1 ∷ h2 ∷ m4 ∷ i1 ∷ i2 ∷ m5 ∷ s1 ∷ s2 ∷ m6 ∷ b ∷ more) s e = absurd (other_length _ s (grind (arith, nat_tests)) e)
stamp_back shorter s e = absurd (other_length shorter s refl e)

-- What is read of a text is the time of which it is the written form.
pub time_back : (text : List ℕ) (time : Option Stamp) → time_text text ≡ Some time → IsTime time × (text ≡ time_written time)
unfolding time_text time_written
time_back [] None e = (tt, refl)
time_back [] (Some s) e = absurd cc
time_back (b ∷ text) None e = absurd (no_none (stamp_text (b ∷ text)) e) where
  no_none : (o : Option Stamp) → option_map (λ (s : Stamp). Some s) o ≡ Some None → ⊥
  no_none None e = cc
  no_none (Some s) e = cc
time_back (b ∷ text) (Some s) e = some_back (stamp_text (b ∷ text)) refl e where
  some_back : (o : Option Stamp) → stamp_text (b ∷ text) ≡ o → option_map (λ (s : Stamp). Some s) o ≡ Some (Some s) → IsTime (Some s) × (b ∷ text ≡ time_written (Some s))
  some_back None is e = absurd cc
  some_back (Some t) is e =
      let same : t ≡ s = same_Some t s (same_Some (Some t) (Some s) e) in
      let back = stamp_back (b ∷ text) s (is ∙ ap Some same) in
      (back.1, back.0)
