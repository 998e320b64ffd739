use Rattle.std.specs.Prelude.{ℕ, ◌/◌, ◌%◌, ◌==◌, ◌&&◌, ◌||◌, Bool, not, nat_lt, nat_le, if◌then◌else◌, List, [], ◌∷◌, ◌++◌}
use Rattle.std.specs.Char.{digit_char}

-- The characters that are written as escapes: up to U+0020, from U+007F to U+00A0, U+00AD, `%`, `,`, `=`, `@`, and all from U+0600 on.
abbrev pub is_escaped : ℕ → Bool
is_escaped c = nat_le c 32 || (nat_le 127 c && nat_le c 160) || (c == 173) || (c == 37) || (c == 44) || (c == 61) || (c == 64) || nat_le 1536 c

-- A byte that is written as it is: an ASCII character that isn't escaped.
abbrev pub stays : ℕ → Bool
stays b = nat_lt b 128 && not (is_escaped b)

-- The last hexadecimal digit of a number, in lower case.
abbrev pub hex_digit : ℕ → ℕ
hex_digit n = digit_char (n % 16)

-- The hexadecimal digits of a code point: two to U+00FF, else at least four and no more than needed.
unfoldable pub hex_written : ℕ → List ℕ
hex_written c =
    if nat_lt c 0x100 then hex_digit (c / 0x10) ∷ hex_digit c ∷ []
    else (if nat_lt c 0x10000 then hex_digit (c / 0x1000) ∷ hex_digit (c / 0x100) ∷ hex_digit (c / 0x10) ∷ hex_digit c ∷ []
    else (if nat_lt c 0x100000 then hex_digit (c / 0x10000) ∷ hex_digit (c / 0x1000) ∷ hex_digit (c / 0x100) ∷ hex_digit (c / 0x10) ∷ hex_digit c ∷ []
    else hex_digit (c / 0x100000) ∷ hex_digit (c / 0x10000) ∷ hex_digit (c / 0x1000) ∷ hex_digit (c / 0x100) ∷ hex_digit (c / 0x10) ∷ hex_digit c ∷ []))

-- The characters that a character is written with.
unfoldable pub spelling : ℕ → List ℕ
spelling c = if is_escaped c then 37 ∷ (hex_written c ++ 37 ∷ []) else c ∷ []
