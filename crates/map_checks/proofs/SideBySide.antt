-- A walk along references that looks for two equal ones side by side.
use Rattle.std.proofs.Common.{◌≡◌, ℕ, ℤ, zero, suc, ◌+◌, ◌<◌, ◌≤◌, ◌||◌, Bool, true, false, List, [], ◌∷◌, length, drop, get_or, refl, sym, ap, ◌∙◌, add-one, drop-cons, arith, w64, of_z}
use Rattle.std.proofs.lemmas.Bool.Decides.{Decides-int_eq}
use Rattle.std.specs.Ordering.{int_eq}
use Rattle.tool_api.specs.Findings.{has_repeat}

here : (refs : List ℤ) (i j : ℕ) (d e : ℤ) → i ≡ j + 1 → i < length refs → has_repeat (drop j refs) ≡ (int_eq (get_or refs j d) (get_or refs i e) || has_repeat (drop i refs))
here refs i j d e one lt =
    let next : i ≡ suc j = one ∙ add-one j in
    let before : j < length refs = omega (arith, one, lt) in
    let second : drop i refs ≡ get_or refs i e ∷ drop (suc i) refs = drop-cons refs i e lt in
    let first : drop j refs ≡ get_or refs j d ∷ (get_or refs i e ∷ drop (suc i) refs) =
    drop-cons refs j d before ∙ ap (λ (l : List ℤ). get_or refs j d ∷ l) (ap (λ (m : ℕ). drop m refs) (sym next) ∙ second) in
    ap has_repeat first ∙ ap (λ (l : List ℤ). int_eq (get_or refs j d) (get_or refs i e) || has_repeat l) (sym second)

pub apart : (refs : List ℤ) (i j m : ℕ) (d e : ℤ) → i ≡ j + 1 → m ≡ i → i < length refs → int_eq (get_or refs j d) (get_or refs i e) ≡ false → has_repeat (drop j refs) ≡ has_repeat refs → has_repeat (drop m refs) ≡ has_repeat refs
apart refs i j m d e one same lt differ so_far =
    ap (λ (x : ℕ). has_repeat (drop x refs)) same ∙ ap (λ b. b || has_repeat (drop i refs)) (sym differ) ∙ sym (here refs i j d e one lt) ∙ so_far

pub found : (refs : List ℤ) (i j : ℕ) (d e : ℤ) → i ≡ j + 1 → i < length refs → int_eq (get_or refs j d) (get_or refs i e) ≡ true → has_repeat (drop j refs) ≡ has_repeat refs → true ≡ has_repeat refs
found refs i j d e one lt equal so_far = ap (λ b. b || has_repeat (drop i refs)) (sym equal) ∙ sym (here refs i j d e one lt) ∙ so_far

-- numbers that differ by their bits differ
differ_case : (a b : ℤ) (c : Bool) → int_eq a b ≡ c → (of_z w64 a ≡ of_z w64 b → ⊥) → c ≡ false
differ_case a b true is h = absurd (h (ap (of_z w64) ((Decides-int_eq a b).0 is)))
differ_case a b false is h = refl

pub differs : (a b : ℤ) → (of_z w64 a ≡ of_z w64 b → ⊥) → int_eq a b ≡ false
differs a b h = differ_case a b (int_eq a b) refl h

none_left : (refs : List ℤ) (j : ℕ) → length refs ≤ j + 1 → has_repeat (drop j refs) ≡ false
none_left [] zero h = refl
none_left [] (suc j) h = refl
none_left (a ∷ []) zero h = refl
none_left (a ∷ b ∷ refs) zero h = absurd (omega (arith, h))
none_left (a ∷ refs) (suc j) h = none_left refs j (omega (arith, h))

pub ended : (refs : List ℤ) (i j : ℕ) → i ≡ j + 1 → length refs ≤ i → has_repeat (drop j refs) ≡ has_repeat refs → false ≡ has_repeat refs
ended refs i j one end so_far = sym (none_left refs j (omega (arith, one, end))) ∙ so_far
