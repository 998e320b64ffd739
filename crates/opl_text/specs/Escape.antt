use Rattle.std.specs.Prelude.{◌≡◌, ℕ, ◌+◌, ◌*◌, ◌<◌, ◌≤◌, ◌^◌, ◌==◌, ◌&&◌, Bool, true, not, nat_lt, if◌then◌else◌, Option, Some, None, List, [], ◌∷◌, ◌++◌, length}
use Rattle.std.specs.Option.{option_map}
use Rattle.std.specs.Char.{digit_value, IsScalar}
use Rattle.std.specs.Str.Parse.{digits_value, AllDigits}
use lib.Utf8.{scalar}
use Rattle.opl_text.specs.declared.escape.Escape.{Escape}
use Rattle.opl_text.specs.declared.escape.Next.{Next}
use Rattle.opl_text.specs.declared.escape.Next.TheVariants.{Bad, Inside, Gives}

-- A character that stands for itself: none up to U+0020, no `%`, no `,` and no `=`.
abbrev pub is_raw : ℕ → Bool
is_raw c = nat_lt 32 c && not (c == 37) && not (c == 44) && not (c == 61)

-- What the characters of a text spell: raw characters, and `%`, 1 to 6 hexadecimal digits of a scalar value other than 0, and `%`.
pub data Spells : List ℕ → List ℕ → Type 0 where
  done : Spells [] []
  raw : (c : ℕ) (cs ds : List ℕ) → is_raw c ≡ true → Spells cs ds → Spells (c ∷ cs) (c ∷ ds)
  escape : (hex cs ds : List ℕ) → 1 ≤ length hex → length hex ≤ 6 → AllDigits 16 hex → IsScalar (digits_value 16 hex) → 0 < digits_value 16 hex → Spells cs ds → Spells (37 ∷ (hex ++ 37 ∷ cs)) (digits_value 16 hex ∷ ds)

-- What a character does outside an escape, and in one.
abbrev pub next_of : Option Escape → ℕ → Next
next_of None c = if c == 37 then Inside (record { digits = 0; code = 0 }) else (if is_raw c then Gives c else Bad)
next_of (Some e) c =
    if c == 37 then (if nat_lt 0 e.code && scalar e.code then Gives e.code else Bad)
    else (if nat_lt (digit_value c) 16 && nat_lt e.digits 6 then Inside (record { digits = e.digits + 1; code = e.code * 16 + digit_value c }) else Bad)

-- A bad character ends the reading, and one that is given goes before what the rest gives.
abbrev pub carried : Next → (Option Escape → Option (List ℕ)) → Option (List ℕ)
carried Bad rest = None
carried (Inside e) rest = rest (Some e)
carried (Gives c) rest = option_map (λ ds. c ∷ ds) (rest None)

-- An escape has to end.
abbrev pub ended : Option Escape → Option (List ℕ)
ended None = Some []
ended (Some e) = None

-- The characters that the characters of a text spell, begun in an escape or outside one.
abbrev pub characters_of : Option Escape → List ℕ → Option (List ℕ)
characters_of e [] = ended e
characters_of e (c ∷ cs) = carried (next_of e c) (λ f. characters_of f cs)

-- The value of an escape's digits is below what so many digits can write.
abbrev pub IsWithin : Next → Type 0
IsWithin Bad = Unit {0}
IsWithin (Inside e) = (e.digits ≤ 6) × (e.code < 16 ^ e.digits)
IsWithin (Gives c) = Unit {0}
