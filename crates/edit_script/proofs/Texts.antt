-- Texts that are written one behind the other.
use Rattle.std.proofs.Common.{◌≡◌, ℕ, List, ◌++◌, Result, Ok, Err, OnOk, ap, ◌∙◌, append_assoc}

-- a text behind another, written by a call whose answer is returned
pub last_text : {T E : Type 0} (result : Result T E) (old first new p q : List ℕ) → first ≡ old ++ p → OnOk result (new ≡ first ++ q) → OnOk result (new ≡ old ++ (p ++ q))
last_text (Ok x) old first new p q a b = b ∙ ap (λ l. l ++ q) a ∙ append_assoc old p q
last_text (Err e) old first new p q a b = tt
