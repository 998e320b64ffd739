-- The piece that is kept is the first of the longest.
use Rattle.std.proofs.Common.{◌≡◌, ◌+◌, ◌<◌, ◌≤◌, ℕ, ℤ, zero, suc, Bool, true, false, cond, nat_lt, List, [], ◌∷◌, length, refl, sym, subst, arith}
use mathlib.Core.Logic.{◌⊎◌, inl, inr}
use Rattle.std.proofs.lemmas.Bool.Decides.{nat_tests}
use Rattle.std.proofs.lemmas.Bool.{ltb-false}
use Rattle.tool_api.specs.Split.{longest_from, kept_number}
use Rattle.job_laws.specs.SplitPieces.{size_at, IsFirstLongest}

is_less : (m n : ℕ) → nat_lt m n ≡ true → m < n
is_less m n e = grind (arith, nat_tests)

-- none has more references
abbrev AtMost : ℕ → List (List ℤ) → Type 0
AtMost size ps = (j : ℕ) → j < length ps → size_at ps j ≤ size

at_most : (size : ℕ) (p : List ℤ) (ps : List (List ℤ)) → length p ≤ size → AtMost size ps → AtMost size (p ∷ ps)
at_most size p ps h f zero lt = h
at_most size p ps h f (suc j) lt = f j (omega (arith, lt))

-- each before the i-th is shorter
abbrev Before : List (List ℤ) → ℕ → Type 0
Before ps i = (j : ℕ) → j < i → size_at ps j < size_at ps i

before : (p : List ℤ) (ps : List (List ℤ)) (i : ℕ) → length p < size_at ps i → Before ps i → Before (p ∷ ps) (suc i)
before p ps i h f zero lt = h
before p ps i h f (suc j) lt = f j (omega (arith, lt))

-- The best so far stays, or a later piece with more references is the first of the longest.
record Later (i size : ℕ) (ps : List (List ℤ)) (n : ℕ) : Type 0 where
  at : ℕ
  is : n ≡ i + at
  more : size < size_at ps at
  first_longest : IsFirstLongest ps at

abbrev Found : ℕ → ℕ → ℕ → List (List ℤ) → ℕ → Type 0
Found i best size ps n = ((n ≡ best) × AtMost size ps) ⊎ Later i size ps n

head_best : (i size : ℕ) (p : List ℤ) (ps : List (List ℤ)) (n : ℕ) → size < length p → Found (i + 1) i (length p) ps n → Later i size (p ∷ ps) n
head_best i size p ps n h (inl (e, most)) = record {
  at = 0;
  is = omega (arith, e);
  more = h;
  first_longest = record { there = omega arith; longest = at_most (length p) p ps (omega arith) most; first = λ j lt. absurd (omega (arith, lt)) };
}
head_best i size p ps n h (inr l) = let m = l.more in record {
  at = suc l.at;
  is = let e = l.is in omega (arith, e);
  more = omega (arith, h, m);
  first_longest = record {
    there = let lt = l.first_longest.there in omega (arith, lt);
    longest = at_most (size_at ps l.at) p ps (omega (arith, m)) l.first_longest.longest;
    first = before p ps l.at m l.first_longest.first;
  };
}

passed_over : (i best size : ℕ) (p : List ℤ) (ps : List (List ℤ)) (n : ℕ) → length p ≤ size → Found (i + 1) best size ps n → Found i best size (p ∷ ps) n
passed_over i best size p ps n h (inl (e, most)) = inl (e, at_most size p ps h most)
passed_over i best size p ps n h (inr l) = let m = l.more in inr (record {
  at = suc l.at;
  is = let e = l.is in omega (arith, e);
  more = m;
  first_longest = record {
    there = let lt = l.first_longest.there in omega (arith, lt);
    longest = at_most (size_at ps l.at) p ps (omega (arith, h, m)) l.first_longest.longest;
    first = before p ps l.at (omega (arith, h, m)) l.first_longest.first;
  };
})

next_case : (c : Bool) (i best size : ℕ) (p : List ℤ) (ps : List (List ℤ)) → nat_lt size (length p) ≡ c → Found (i + 1) i (length p) ps (longest_from (i + 1) i (length p) ps) → Found (i + 1) best size ps (longest_from (i + 1) best size ps)
    → Found i best size (p ∷ ps) (cond c (longest_from (i + 1) i (length p) ps) (longest_from (i + 1) best size ps))
next_case true i best size p ps is f g = inr (head_best i size p ps _ (is_less size (length p) is) f)
next_case false i best size p ps is f g = passed_over i best size p ps _ (ltb-false size (length p) is) g

found : (i best size : ℕ) (ps : List (List ℤ)) → Found i best size ps (longest_from i best size ps)
found i best size [] = inl (refl, λ j lt. absurd (omega (arith, lt)))
found i best size (p ∷ ps) = next_case (nat_lt size (length p)) i best size p ps refl (found (i + 1) i (length p) ps) (found (i + 1) best size ps)

-- pieces with no references are all the longest
all_empty : (ps : List (List ℤ)) (n : ℕ) → 0 < length ps → Found 0 0 0 ps n → IsFirstLongest ps n
all_empty ps n some (inl (e, most)) = subst (IsFirstLongest ps) (sym e) (record {
  there = some;
  longest = λ j lt. (let h = most j lt in omega (arith, h));
  first = λ j lt. absurd (omega (arith, lt));
})
all_empty ps n some (inr l) = (let e : l.at ≡ n = (let f = l.is in omega (arith, f)) in subst (IsFirstLongest ps) e l.first_longest)

pub kept_is_longest : (ps : List (List ℤ)) → 0 < length ps → IsFirstLongest ps (kept_number ps)
kept_is_longest ps some = all_empty ps (kept_number ps) some (found 0 0 0 ps)
