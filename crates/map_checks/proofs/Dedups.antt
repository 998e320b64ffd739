-- What is left of a list without repeats.
use Rattle.std.proofs.Common.{◌≡◌, ℤ, ◌||◌, Bool, true, false, cond, List, [], ◌∷◌, refl, sym, ap, ◌∙◌}
use Rattle.std.specs.List.{dedup_from}
use Rattle.std.specs.Ordering.{int_eq}
use Rattle.std.proofs.lemmas.Cmp.{int_eq_equiv}
use Rattle.tool_api.specs.Findings.{has_repeat}
use Rattle.tool_api.specs.Squeeze.{squeezed}

-- No two equal numbers stand side by side in it.

abbrev StartsWith : ℤ → List ℤ → Type 0
StartsWith k xs = (rest : List ℤ) × (dedup_from int_eq k xs ≡ k ∷ rest)

starts_case : (b : Bool) (k x : ℤ) (xs : List ℤ) → StartsWith k xs → (rest : List ℤ) × (cond b (dedup_from int_eq k xs) (k ∷ dedup_from int_eq x xs) ≡ k ∷ rest)
starts_case true k x xs h = h
starts_case false k x xs h = (dedup_from int_eq x xs, refl)

starts : (k : ℤ) (xs : List ℤ) → StartsWith k xs
starts k [] = ([], refl)
starts k (x ∷ xs) = starts_case (int_eq x k) k x xs (starts k xs)

none_case : (b : Bool) (k x : ℤ) (xs : List ℤ) → int_eq x k ≡ b → has_repeat (dedup_from int_eq k xs) ≡ false → has_repeat (dedup_from int_eq x xs) ≡ false
    → has_repeat (cond b (dedup_from int_eq k xs) (k ∷ dedup_from int_eq x xs)) ≡ false
none_case true k x xs is first second = first
none_case false k x xs is first second =
    let s = starts x xs in
    ap (λ (l : List ℤ). has_repeat (k ∷ l)) s.1 ∙ ap (λ b. b || has_repeat (x ∷ s.0)) (int_eq_equiv.symm k x ∙ is) ∙ ap has_repeat (sym s.1) ∙ second

none_from : (k : ℤ) (xs : List ℤ) → has_repeat (dedup_from int_eq k xs) ≡ false
none_from k [] = refl
none_from k (x ∷ xs) = none_case (int_eq x k) k x xs refl (none_from k xs) (none_from x xs)

pub no_repeat : (refs : List ℤ) → has_repeat (squeezed refs) ≡ false
no_repeat [] = refl
no_repeat (x ∷ xs) = none_from x xs
