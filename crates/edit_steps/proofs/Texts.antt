-- Texts that are written one behind the other.
use Rattle.std.proofs.Common.{◌≡◌, ℕ, List, ◌++◌, Result, OnOk, ap, ◌∙◌, append_assoc}
use Rattle.edit_script.proofs.Texts.{last_text}

pub two_texts : (old first new p q : List ℕ) → first ≡ old ++ p → new ≡ first ++ q → new ≡ old ++ (p ++ q)
two_texts old first new p q a b = b ∙ ap (λ l. l ++ q) a ∙ append_assoc old p q

pub last_of_four : {T E : Type 0} (result : Result T E) (old first second third new p q r s : List ℕ) → first ≡ old ++ p → second ≡ first ++ q → third ≡ second ++ r → OnOk result (new ≡ third ++ s)
    → OnOk result (new ≡ old ++ (p ++ (q ++ (r ++ s))))
last_of_four result old first second third new p q r s a b c d =
    last_text result old first new p (q ++ (r ++ s)) a (last_text result first second new q (r ++ s) b (last_text result second third new r s c d))
