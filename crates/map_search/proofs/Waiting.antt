-- What waits, as a vector whose last element is the innermost.
use Rattle.std.proofs.Common.{◌≡◌, ℕ, suc, ◌+◌, Bool, true, false, cond, List, [], ◌∷◌, ◌++◌, reverse, count_by, refl, ap, ◌∙◌, arith}
use Rattle.std.proofs.lemmas.List.{reverse-append}
use Rattle.std.proofs.lemmas.List.Recursion.{is_count_by}
use Rattle.map_search.specs.declared.pending.Part.TheVariants as part
use Rattle.map_search.specs.declared.pending.Pending.{Pending}
use Rattle.map_search.specs.Innermost.{innermost_takes}
use Rattle.map_search.specs.Query.{QueryValue}
use Rattle.map_search.specs.Reading.{is_opening, nesting, takes, completed, taken, having}

two_more : (a b : Bool) (n : ℕ) → cond a (suc (cond b (1 + n) n)) (cond b (1 + n) n) ≡ cond b (1 + cond a (suc n) n) (cond a (suc n) n)
two_more true true n = omega arith
two_more true false n = omega arith
two_more false true n = omega arith
two_more false false n = refl

one_more : (b : Bool) → cond b (suc 0) 0 ≡ cond b (1 + 0) 0
one_more true = refl
one_more false = refl

-- one more on the outside
nesting_behind : (x : Pending) (ys : List Pending) → nesting (ys ++ x ∷ []) ≡ cond (is_opening x) (1 + nesting ys) (nesting ys)
nesting_behind x [] = one_more (is_opening x)
nesting_behind x (y ∷ ys) =
    ap (λ n. cond (is_opening y) (suc n) n) (nesting_behind x ys)
    ∙ two_more (is_opening y) (is_opening x) (nesting ys)

-- the openings are counted from either end
pub nesting_reversed : (stack : List Pending) → nesting (reverse stack) ≡ count_by is_opening stack
nesting_reversed stack =
    is_count_by (λ xs. nesting (reverse xs)) is_opening refl (λ x xs. ap nesting (reverse-append (x ∷ []) xs) ∙ nesting_behind x (reverse xs)) stack

-- what takes a factor is completed by it
pub taken_more : (q : QueryValue) (p : Pending) (waiting : List Pending) → takes part.Factor p ≡ true → taken q (p ∷ waiting) ≡ taken (completed p q) waiting
taken_more q p waiting e = rw e refl

-- a factor that nothing takes stays
pub taken_end : (q : QueryValue) (waiting : List Pending) → innermost_takes part.Factor waiting ≡ false → taken q waiting ≡ having q waiting
taken_end q [] e = refl
taken_end q (p ∷ waiting) e = rw e refl
