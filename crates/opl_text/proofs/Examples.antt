-- Worked examples of the grammars and of the written forms.
use Rattle.std.proofs.Common.{◌≡◌, [], ◌∷◌, ◌++◌, Some, None, refl}
use Rattle.std.specs.Prelude.{codes}
use Rattle.std.specs.Str.{is_utf8, chars}
use lib.Utf8.{encode}
use Rattle.osm_base.specs.Number.{number_text}
use Rattle.opl_text.specs.Written.{hex_written, spelling}
use Rattle.opl_text.specs.Text.{unescaped, escaped}
use Rattle.opl_text.specs.Time.{is_date, has_marks, parts_of, stamp_text, time_text, time_written}

-- `a%20%b` is `a b`, and a raw `@` is taken.
blank_read : unescaped (codes "a%20%b@") ≡ Some (codes "a b@")
unfolding unescaped is_utf8 chars encode
blank_read = refl

-- Six digits of either case: `%01F697%` is U+1F697.
car_read : unescaped (codes "%01F697%") ≡ Some (240 ∷ 159 ∷ 154 ∷ 151 ∷ [])
unfolding unescaped is_utf8 chars encode
car_read = refl

-- no escape without a digit, of U+0000, of a surrogate, or with seven digits
no_digit : unescaped (codes "%%") ≡ None
unfolding unescaped is_utf8 chars encode
no_digit = refl

zero : unescaped (codes "%0%") ≡ None
unfolding unescaped is_utf8 chars encode
zero = refl

surrogate : unescaped (codes "%d800%") ≡ None
unfolding unescaped is_utf8 chars encode
surrogate = refl

seven : unescaped (codes "%0000041%") ≡ None
unfolding unescaped is_utf8 chars encode
seven = refl

unfinished : unescaped (codes "a%20") ≡ None
unfolding unescaped is_utf8 chars encode
unfinished = refl

-- `a b=c` is written `a%20%b%3d%c`.
blank_written : escaped (codes "a b=c") ≡ codes "a%20%b%3d%c"
unfolding escaped chars spelling hex_written encode
blank_written = refl

-- U+0600 and U+1F697 have four and five digits, U+05FF stands raw.
large_written : escaped (216 ∷ 128 ∷ 240 ∷ 159 ∷ 154 ∷ 151 ∷ 215 ∷ 191 ∷ []) ≡ codes "%0600%%1f697%" ++ 215 ∷ 191 ∷ []
unfolding escaped chars spelling hex_written encode
large_written = refl

leap_day : time_text (codes "2024-02-29T23:59:59Z") ≡ Some (Some (record { year = 2024; month = 2; day = 29; hour = 23; minute = 59; second = 59 }))
unfolding time_text stamp_text has_marks parts_of is_date number_text
leap_day = refl

no_leap_day : time_text (codes "1900-02-29T00:00:00Z") ≡ None
unfolding time_text stamp_text has_marks parts_of is_date number_text
no_leap_day = refl

no_second : time_text (codes "2016-12-31T23:59:60Z") ≡ None
unfolding time_text stamp_text has_marks parts_of is_date number_text
no_second = refl

no_year : time_text (codes "0000-01-01T00:00:00Z") ≡ None
unfolding time_text stamp_text has_marks parts_of is_date number_text
no_year = refl

time_form : time_written (Some (record { year = 987; month = 6; day = 5; hour = 4; minute = 3; second = 2 })) ≡ codes "0987-06-05T04:03:02Z"
unfolding time_written
time_form = refl
