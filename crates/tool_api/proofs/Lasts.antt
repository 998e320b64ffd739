-- The last of a list.
use Rattle.std.proofs.Common.{◌≡◌, ◌-◌, suc, List, [], ◌∷◌, length, slice_get, Some, None, refl, ap, ◌∙◌, arith}
use Rattle.std.specs.List.{last_or}

last_from : {A : Type 0} (x : A) (xs : List A) → slice_get (x ∷ xs) (length xs) ≡ last_or (Some x) xs
last_from x [] = refl
last_from x (y ∷ xs) = last_from y xs

-- it stands at the last place
pub last_got : {A : Type 0} (xs : List A) → slice_get xs (length xs - 1) ≡ last_or None xs
last_got [] = refl
last_got (x ∷ xs) = (let e : suc (length xs) - 1 ≡ length xs = omega arith in ap (λ n. slice_get (x ∷ xs) n) e) ∙ last_from x xs
