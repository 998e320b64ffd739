use Rattle.std.specs.Prelude.{ℕ, Bool, ◌==◌, ◌||◌, if◌then◌else◌, List, [], ◌∷◌, Option, Some, None}

-- one of two separators
abbrev pub is_one_of : ℕ → ℕ → ℕ → Bool
is_one_of a b byte = byte == a || byte == b

abbrev pub onto_first : ℕ → List (List ℕ) → List (List ℕ)
onto_first b [] = (b ∷ []) ∷ []
onto_first b (piece ∷ pieces) = (b ∷ piece) ∷ pieces

-- the pieces between separators, one more than there are separators
abbrev pub split : (ℕ → Bool) → List ℕ → List (List ℕ)
split ends [] = [] ∷ []
split ends (b ∷ bytes) = if ends b then [] ∷ split ends bytes else onto_first b (split ends bytes)

-- the bytes before the first separator, and those behind it where there is one
abbrev pub before : (ℕ → Bool) → List ℕ → List ℕ
before ends [] = []
before ends (b ∷ bytes) = if ends b then [] else b ∷ before ends bytes

abbrev pub after : (ℕ → Bool) → List ℕ → Option (List ℕ)
after ends [] = None
after ends (b ∷ bytes) = if ends b then Some bytes else after ends bytes
