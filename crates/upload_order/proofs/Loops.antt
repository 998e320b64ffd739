-- Loops over lists: what is left to do comes to the same after each turn.
use Rattle.std.proofs.Common.{◌≡◌, ℕ, ◌+◌, ◌<◌, Bool, cond, List, [], ◌∷◌, ◌++◌, length, drop, get_or, sym, ◌∙◌, ap}
use Rattle.std.proofs.lemmas.List.{at_drop_more}

-- an element is put, as the definition says
pub one_more : {S A Y : Type 0} (F : S → List A → Y) (put : S → A → S) (puts : (s : S) (x : A) (xs : List A) → F s (x ∷ xs) ≡ F (put s x) xs) (xs : List A) (i : ℕ) (d : A) (s next : S) (whole : Y)
    → i < length xs → next ≡ put s (get_or xs i d) → F s (drop i xs) ≡ whole → F next (drop (i + 1) xs) ≡ whole
one_more F put puts xs i d s next whole within to so_far = ap (λ z. F z (drop (i + 1) xs)) to ∙ sym (puts s (get_or xs i d) (drop (i + 1) xs)) ∙ sym (at_drop_more (F s) xs i d within) ∙ so_far

-- it is pushed if a test says so, which is the same as another
pub pushed_if : {A : Type 0} (list next : List A) (x : A) (b c : Bool) → next ≡ cond b (list ++ x ∷ []) list → b ≡ c → next ≡ cond c (list ++ x ∷ []) list
pushed_if list next x b c is test = is ∙ ap (λ t. cond t (list ++ x ∷ []) list) test
