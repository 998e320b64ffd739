-- What an answer tells: for laws that say of each answer when it is given.
use Rattle.std.specs.Prelude.{Bool, true, false, Option, Some, None}

-- a test says whether it is so
abbrev pub Tells : Type 0 → Bool → Type 0
Tells P true = P
Tells P false = P → ⊥

-- a reading gives the value that is so, and none where none is
abbrev pub Finds : {A : Type 0} → (A → Type 0) → Option A → Type 0
Finds P (Some x) = P x
Finds {A = A} P None = (x : A) → P x → ⊥
