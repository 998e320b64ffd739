-- What stands at the front of bytes, up to the separator behind it.
use Rattle.std.specs.Prelude.{ℕ, Bool, ◌==◌, ◌&&◌, ◌-◌, not, nat_lt, if◌then◌else◌, List, [], ◌∷◌, Option, Some, None}
use Rattle.std.specs.Char.{is_ascii_digit}

-- the digits at the front, at most so many, and the bytes behind them
abbrev pub front_digits : ℕ → List ℕ → List ℕ
front_digits most [] = []
front_digits most (b ∷ bytes) = if nat_lt 0 most && is_ascii_digit b then b ∷ front_digits (most - 1) bytes else []

abbrev pub behind_digits : ℕ → List ℕ → List ℕ
behind_digits most [] = []
behind_digits most (b ∷ bytes) = if nat_lt 0 most && is_ascii_digit b then behind_digits (most - 1) bytes else b ∷ bytes

-- the bytes behind the end of a piece that ends at once, where a separator ends it; none where the piece goes on
abbrev pub ended : (ℕ → Bool) → List ℕ → Option (Option (List ℕ))
ended ends [] = Some None
ended ends (b ∷ bytes) = if ends b then Some (Some bytes) else None

-- a byte that stands in no number
abbrev pub is_apart : ℕ → Bool
is_apart b = not (is_ascii_digit b) && not (b == 45)
