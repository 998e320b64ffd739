-- Text that ends at a line's end, and calls that cut no line.
--
-- For example `1 ok` and LF, and no text at all; `1 o` is none. A call that found no memory after it handed on `1 ok` and LF cut
-- no line; one whose sink failed may have.
use Rattle.std.specs.Prelude.{◌≡◌, ◌⊎◌, ℕ, List, [], ◌∷◌, ◌++◌, Option, None, Some, Result, IsErrOf}

-- its last byte is LF
abbrev pub EndsLine : List ℕ → Type 0
EndsLine text = (front : List ℕ) × (text ≡ front ++ 10 ∷ [])

-- These are whole lines, or none.
abbrev pub AreLines : List ℕ → Type 0
AreLines text = (text ≡ []) ⊎ EndsLine text

-- A sink tells what it took, and these are whole lines.
abbrev pub TookLines : Option (List ℕ) → Type 0
TookLines None = ⊥
TookLines (Some taken) = AreLines taken

-- Unless it failed for this fault, a call cut no line: a sink that had taken whole lines before has so after it.
pub record CutsNoLine {T E : Type 0} (fault : E) (before now : Option (List ℕ)) (result : Result T E) : Type 0 where
  pub lines : (IsErrOf result fault → ⊥) → TookLines before → TookLines now
