-- A list is made of another item by item.
use Rattle.std.proofs.Common.{◌≡◌, ℕ, ◌+◌, ◌<◌, ◌≤◌, List, [], ◌∷◌, ◌++◌, length, map, drop, get_or, sym, ap, ◌∙◌, append_assoc}
use Rattle.std.proofs.lemmas.List.{append-nil, drop_more, drop_all}

-- one more
pub mapped_more : {A B : Type 0} (f : A → B) (xs : List A) (i : ℕ) (none : A) (y : B) (out new all : List B) → i < length xs → y ≡ f (get_or xs i none) → new ≡ out ++ y ∷ []
    → out ++ map f (drop i xs) ≡ all → new ++ map f (drop (i + 1) xs) ≡ all
mapped_more {A = A} {B = B} f xs i none y out new all lt is put before =
    ap (λ (ys : List B). ys ++ map f (drop (i + 1) xs)) put
    ∙ append_assoc out (y ∷ []) (map f (drop (i + 1) xs))
    ∙ ap (λ (z : B). out ++ z ∷ map f (drop (i + 1) xs)) is
    ∙ sym (ap (λ (ys : List A). out ++ map f ys) (drop_more xs i none lt))
    ∙ before

-- all
pub mapped_all : {A B : Type 0} (f : A → B) (xs : List A) (i : ℕ) (out all : List B) → length xs ≤ i → out ++ map f (drop i xs) ≡ all → out ≡ all
mapped_all {A = A} {B = B} f xs i out all past before = sym (append-nil out) ∙ sym (ap (λ (ys : List A). out ++ map f ys) (drop_all i xs past)) ∙ before
