-- Worked examples, on which the definitions compute.
use Rattle.std.proofs.Common.{◌≡◌, ℕ, ◌==◌, ◌&&◌, ◌||◌, Bool, List, [], ◌∷◌, refl, if◌then◌else◌, ◌+◌}
use Rattle.closure.specs.Closure.{least, by_chains, by_needs}

abbrev same : ℕ → ℕ → Bool
same a b = a == b

-- 1, 2 and 3 stand in a ring, and 4 leads into it
abbrev ring : ℕ → ℕ → Bool
ring j k = (j == 1 && k == 2) || (j == 2 && k == 3) || (j == 3 && k == 1) || (j == 4 && k == 1)

-- who begins in the ring gets all of it, and not who leads into it
round : least same (by_chains (same 2) ring) (4 ∷ 3 ∷ 2 ∷ 1 ∷ []) ≡ 3 ∷ 2 ∷ 1 ∷ []
round = refl

-- a chain is followed to its end, however the list stands to it
along : least same (by_chains (same 5) (λ j k. j == k + 1)) (1 ∷ 2 ∷ 3 ∷ 4 ∷ 5 ∷ 6 ∷ []) ≡ 1 ∷ 2 ∷ 3 ∷ 4 ∷ 5 ∷ []
along = refl

-- 2 needs 1, 3 and 4 need each other, and 5 needs both 1 and 3
abbrev needs : ℕ → List ℕ
needs k = if k == 2 then 1 ∷ [] else (if k == 3 then 4 ∷ [] else (if k == 4 then 3 ∷ [] else (if k == 5 then 1 ∷ 3 ∷ [] else [])))

-- who needs nothing is ready, and who needs the ready; a ring of needs is stuck, with all that need it
ready : least same (by_needs same needs) (5 ∷ 4 ∷ 3 ∷ 2 ∷ 1 ∷ []) ≡ 2 ∷ 1 ∷ []
ready = refl
