-- The written form of a time: it spells the time again, and has only plain bytes.
use Rattle.std.proofs.Common.{◌≡◌, ℕ, ◌/◌, ◌%◌, ◌<◌, ◌≤◌, ◌&&◌, true, leb, [], ◌∷◌, Option, Some, None, refl, ap, arith}
use Rattle.std.specs.Option.{option_map}
use Rattle.std.specs.List.{list_all}
use Rattle.std.proofs.lemmas.Bool.{and_parts, leb-true}
use Rattle.std.proofs.lemmas.Bool.Decides.{nat_tests}
use Rattle.std.specs.Char.{is_ascii_digit, digit_value}
use Rattle.osm_base.specs.Number.{number_text}
use Rattle.osm_base.specs.declared.meta.Stamp.{Stamp}
use Rattle.opl_text.specs.Ends.{ends_nothing}
use Rattle.opl_text.specs.Time.{days_in_month, is_date, is_time, has_marks, parts_of, stamp_text, time_text, last_digit, time_written, IsTime}

-- one digit
digit_is : (n : ℕ) → digit_value (last_digit n) ≡ n % 10
digit_is n = let h : n % 10 < 10 = omega arith in grind (arith, nat_tests)

digit_test : (n : ℕ) → is_ascii_digit (last_digit n) ≡ true
digit_test n = let h : n % 10 < 10 = omega arith in grind (arith, nat_tests)

two_again : (n : ℕ) → n ≤ 99 → number_text 2 (last_digit (n / 10) ∷ last_digit n ∷ []) ≡ Some n
unfolding number_text
two_again n h = rw (digit_test (n / 10), digit_test n, digit_is (n / 10), digit_is n) (ap Some (omega arith))

four_again : (n : ℕ) → n ≤ 9999 → number_text 4 (last_digit (n / 1000) ∷ last_digit (n / 100) ∷ last_digit (n / 10) ∷ last_digit n ∷ []) ≡ Some n
unfolding number_text
four_again n h =
    rw (digit_test (n / 1000), digit_test (n / 100), digit_test (n / 10), digit_test n, digit_is (n / 1000), digit_is (n / 100), digit_is (n / 10), digit_is n) (ap Some (omega arith))

-- the bounds of a date
pub record IsSmall (s : Stamp) : Type 0 where
  year : s.year ≤ 9999
  month : s.month ≤ 99
  day : s.day ≤ 99
  hour : s.hour ≤ 99
  minute : s.minute ≤ 99
  second : s.second ≤ 99

month_short : (y m : ℕ) → days_in_month y m ≤ 31
month_short y m = grind (arith, nat_tests)

small : (s : Stamp) → is_time s ≡ true → IsSmall s
unfolding is_date
small s h =
    let last = and_parts (is_date s.year s.month s.day && leb s.hour 23 && leb s.minute 59) (leb s.second 59) h in
    let minute = and_parts (is_date s.year s.month s.day && leb s.hour 23) (leb s.minute 59) last.0 in
    let hour = and_parts (is_date s.year s.month s.day) (leb s.hour 23) minute.0 in
    let day = and_parts (leb 1 s.year && leb s.year 9999 && leb 1 s.month && leb s.month 12 && leb 1 s.day) (leb s.day (days_in_month s.year s.month)) hour.0 in
    let least = and_parts (leb 1 s.year && leb s.year 9999 && leb 1 s.month && leb s.month 12) (leb 1 s.day) day.0 in
    let month = and_parts (leb 1 s.year && leb s.year 9999 && leb 1 s.month) (leb s.month 12) least.0 in
    let first = and_parts (leb 1 s.year && leb s.year 9999) (leb 1 s.month) month.0 in
    let year = and_parts (leb 1 s.year) (leb s.year 9999) first.0 in
    record {
      year = leb-true s.year 9999 year.1;
      month = omega (arith, leb-true s.month 12 month.1);
      day = omega (arith, leb-true s.day (days_in_month s.year s.month) day.1, month_short s.year s.month);
      hour = omega (arith, leb-true s.hour 23 hour.1);
      minute = omega (arith, leb-true s.minute 59 minute.1);
      second = omega (arith, leb-true s.second 59 last.1);
    }

marks_again : (s : Stamp) → has_marks (time_written (Some s)) ≡ true
unfolding has_marks time_written
marks_again s = refl

parts_again : (s : Stamp) → IsSmall s → parts_of (time_written (Some s)) ≡ Some s
unfolding parts_of time_written
parts_again s h = rw (four_again s.year h.year, two_again s.month h.month, two_again s.day h.day, two_again s.hour h.hour, two_again s.minute h.minute, two_again s.second h.second) refl

stamp_again : (s : Stamp) → is_time s ≡ true → stamp_text (time_written (Some s)) ≡ Some s
unfolding stamp_text
stamp_again s h = rw (marks_again s, parts_again s (small s h), h) refl

-- What is written of a time spells it.
pub time_again : (time : Option Stamp) → IsTime time → time_text (time_written time) ≡ Some time
unfolding time_text time_written
time_again None h = refl
time_again (Some s) h = ap (λ (o : Option Stamp). option_map (λ (s : Stamp). Some s) o) (stamp_again s h)

digit_plain : (n : ℕ) → ends_nothing (last_digit n) ≡ true
digit_plain n = let h : n % 10 < 10 = omega arith in grind (arith, nat_tests)

-- What is written has only plain bytes.
pub time_plain : (time : Option Stamp) → list_all ends_nothing (time_written time) ≡ true
unfolding time_written
time_plain None = refl
time_plain (Some s) =
    rw (
      digit_plain (s.year / 1000),
      digit_plain (s.year / 100),
      digit_plain (s.year / 10),
      digit_plain s.year,
      digit_plain (s.month / 10),
      digit_plain s.month,
      digit_plain (s.day / 10),
      digit_plain s.day,
      digit_plain (s.hour / 10),
      digit_plain s.hour,
      digit_plain (s.minute / 10),
      digit_plain s.minute,
      digit_plain (s.second / 10),
      digit_plain s.second,
    ) refl
