use Rattle.std.specs.Prelude.{◌≡◌, ℕ, ◌+◌, ◌/◌, ◌%◌, ◌≤◌, ◌==◌, ◌&&◌, ◌||◌, Bool, true, not, nat_le, if◌then◌else◌, Option, Some, None, List, [], ◌∷◌, length, slice_index, slice_range, Result, Ok, Err}
use Rattle.std.specs.Option.{option_map}
use Rattle.osm_base.specs.Number.{number_text}
use Rattle.osm_base.specs.declared.meta.Stamp.{Stamp}
use Rattle.opl_text.specs.declared.time.TimeFault.{TimeFault}
use Rattle.opl_text.specs.declared.time.TimeFault.TheVariants as times

-- Every fourth year is a leap year, but of the centuries only every fourth.
abbrev pub is_leap_year : ℕ → Bool
is_leap_year year = (year % 4 == 0) && (not (year % 100 == 0) || (year % 400 == 0))

-- Thirty days have April, June, September and November.
abbrev pub days_in_month : ℕ → ℕ → ℕ
days_in_month year month =
    if month == 2 then (if is_leap_year year then 29 else 28)
    else (if (month == 4) || (month == 6) || (month == 9) || (month == 11) then 30 else 31)

-- The calendar has this day, in a year from 1 to 9999.
unfoldable pub is_date : ℕ → ℕ → ℕ → Bool
is_date year month day =
    nat_le 1 year && nat_le year 9999 && nat_le 1 month && nat_le month 12 && nat_le 1 day && nat_le day (days_in_month year month)

-- A time that a time text can name.
abbrev pub is_time : Stamp → Bool
is_time s = is_date s.year s.month s.day && nat_le s.hour 23 && nat_le s.minute 59 && nat_le s.second 59

-- The marks of `YYYY-MM-DDThh:mm:ssZ` stand at their places.
unfoldable pub has_marks : List ℕ → Bool
has_marks text =
    (length text == 20) && (slice_index text 4 == 45) && (slice_index text 7 == 45) && (slice_index text 10 == 84)
    && (slice_index text 13 == 58) && (slice_index text 16 == 58) && (slice_index text 19 == 90)

-- What follows is asked only where there is a value so far.
infixl 10 ◌>>=◌
abbrev pub ◌>>=◌ : {A B : Type 0} → Option A → (A → Option B) → Option B
None >>= f = None
(Some x) >>= f = f x

-- The numbers between the marks.
unfoldable pub parts_of : List ℕ → Option Stamp
parts_of text = do
  year ← number_text 4 (slice_range text 0 4)
  month ← number_text 2 (slice_range text 5 7)
  day ← number_text 2 (slice_range text 8 10)
  hour ← number_text 2 (slice_range text 11 13)
  minute ← number_text 2 (slice_range text 14 16)
  second ← number_text 2 (slice_range text 17 19)
  Some (record { year = year; month = month; day = day; hour = hour; minute = minute; second = second })

-- The time that `YYYY-MM-DDThh:mm:ssZ` spells.
unfoldable pub stamp_text : List ℕ → Option Stamp
stamp_text text = if has_marks text then (do
  stamp ← parts_of text
  if is_time stamp then Some stamp else None) else None

-- The time that a field spells, none where it is empty.
unfoldable pub time_text : List ℕ → Option (Option Stamp)
time_text [] = Some None
time_text (b ∷ bytes) = option_map (λ s. Some s) (stamp_text (b ∷ bytes))

-- The parts of a time have no more digits than a time text gives them.
abbrev pub IsShort : Stamp → Type 0
IsShort s = (s.year ≤ 9999) × (s.month ≤ 99) × (s.day ≤ 99)

-- What was returned is what the field spells. Reading a time takes no memory, so want of memory is no answer.
abbrev pub GivesTime : Result (Option Stamp) TimeFault → Option (Option Stamp) → Type 0
GivesTime (Ok time) read = read ≡ Some time
GivesTime (Err times.BadTime) read = read ≡ None
GivesTime (Err times.Memory) read = ⊥

-- The last decimal digit of a number.
abbrev pub last_digit : ℕ → ℕ
last_digit n = 48 + n % 10

-- The written form of a time: `YYYY-MM-DDThh:mm:ssZ`, or nothing.
unfoldable pub time_written : Option Stamp → List ℕ
time_written None = []
time_written (Some s) =
    last_digit (s.year / 1000) ∷ last_digit (s.year / 100) ∷ last_digit (s.year / 10) ∷ last_digit s.year ∷ 45
    ∷ last_digit (s.month / 10) ∷ last_digit s.month ∷ 45 ∷ last_digit (s.day / 10) ∷ last_digit s.day ∷ 84
    ∷ last_digit (s.hour / 10) ∷ last_digit s.hour ∷ 58 ∷ last_digit (s.minute / 10) ∷ last_digit s.minute ∷ 58
    ∷ last_digit (s.second / 10) ∷ last_digit s.second ∷ 90 ∷ []

-- A time of a time text, or none.
abbrev pub IsTime : Option Stamp → Type 0
IsTime None = Unit {0}
IsTime (Some s) = is_time s ≡ true
