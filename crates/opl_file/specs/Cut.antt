-- A file cut into lines. Which lines these are is told by `Lines`.
use Rattle.std.specs.Prelude.{ℕ, Bool, ◌==◌, if◌then◌else◌, List, [], ◌∷◌, ◌++◌}
use Rattle.std.specs.List.{list_any}

-- whether an LF is among the bytes
abbrev pub has_lf : List ℕ → Bool
has_lf bytes = list_any (λ byte. byte == 10) bytes

-- The lines that an LF ends, and the bytes after the last LF.
pub record Cut : Type 0 where
  pub ended : List (List ℕ)
  pub rest : List ℕ

-- a byte before what was cut belongs to the first line
abbrev pub behind : ℕ → List (List ℕ) → List ℕ → Cut
behind byte [] rest = record { ended = []; rest = byte ∷ rest }
behind byte (line ∷ lines) rest = record { ended = (byte ∷ line) ∷ lines; rest = rest }

-- a file is cut at LF
abbrev pub cut : List ℕ → Cut
cut [] = record { ended = []; rest = [] }
cut (byte ∷ bytes) = if byte == 10 then record { ended = [] ∷ (cut bytes).ended; rest = (cut bytes).rest } else behind byte (cut bytes).ended (cut bytes).rest

-- bytes after the last LF are a line if there are any
abbrev pub last_line : List ℕ → List (List ℕ)
last_line [] = []
last_line (byte ∷ bytes) = (byte ∷ bytes) ∷ []

-- the lines of a file
abbrev pub lines_of : List ℕ → List (List ℕ)
lines_of bytes = (cut bytes).ended ++ last_line (cut bytes).rest
