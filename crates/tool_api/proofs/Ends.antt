-- The ends of lists of patches.
use Rattle.std.proofs.Common.{◌≡◌, ℕ, suc, ◌<◌, ◌-◌, List, [], ◌∷◌, ◌++◌, length, get_or, slice_get, sym, ◌∙◌, ap, refl, arith}
use Rattle.dataset.specs.Patch.{PatchValue}
use Rattle.tool_api.specs.Patches.{last_patch, newest_of, front, first_patch, rest, turned}

pub last_got : (ps : List PatchValue) (d : PatchValue) → 0 < length ps → get_or ps (length ps - 1) d ≡ last_patch ps
last_got [] d h = absurd (omega arith)
last_got (p ∷ []) d h = refl
last_got (p ∷ q ∷ ps) d h =
    let e : suc (suc (length ps)) - 1 ≡ suc (length ps) = omega arith in
    let f : suc (length ps) - 1 ≡ length ps = omega arith in
    ap (λ (n : ℕ). get_or (p ∷ q ∷ ps) n d) e ∙ ap (λ (n : ℕ). get_or (q ∷ ps) n d) (sym f) ∙ last_got (q ∷ ps) d (omega arith)

pub newest_got : (ps : List PatchValue) → slice_get ps (length ps - 1) ≡ newest_of ps
newest_got [] = refl
newest_got (p ∷ []) = refl
newest_got (p ∷ q ∷ ps) =
    let e : suc (suc (length ps)) - 1 ≡ suc (length ps) = omega arith in
    let f : suc (length ps) - 1 ≡ length ps = omega arith in
    ap (λ (n : ℕ). slice_get (p ∷ q ∷ ps) n) e ∙ ap (λ (n : ℕ). slice_get (q ∷ ps) n) (sym f) ∙ newest_got (q ∷ ps)

pub last_pushed : (ps : List PatchValue) (p : PatchValue) → last_patch (ps ++ p ∷ []) ≡ p
last_pushed [] p = refl
last_pushed (q ∷ []) p = refl
last_pushed (q ∷ r ∷ ps) p = last_pushed (r ∷ ps) p

pub front_pushed : (ps : List PatchValue) (p : PatchValue) → front (ps ++ p ∷ []) ≡ ps
front_pushed [] p = refl
front_pushed (q ∷ []) p = refl
front_pushed (q ∷ r ∷ ps) p = ap (λ (v : List PatchValue). q ∷ v) (front_pushed (r ∷ ps) p)

pub turned_pushed : (ps : List PatchValue) (p : PatchValue) → turned (ps ++ p ∷ []) ≡ p ∷ turned ps
turned_pushed [] p = refl
turned_pushed (q ∷ ps) p = ap (λ (v : List PatchValue). v ++ q ∷ []) (turned_pushed ps p)

pub split : (p : PatchValue) (ps : List PatchValue) → p ∷ ps ≡ front (p ∷ ps) ++ last_patch (p ∷ ps) ∷ []
split p [] = refl
split p (q ∷ ps) = ap (λ (v : List PatchValue). p ∷ v) (split q ps)

pub first_turned : (ps : List PatchValue) → first_patch (turned ps) ≡ last_patch ps
first_turned [] = refl
first_turned (p ∷ ps) = ap (λ (v : List PatchValue). first_patch (turned v)) (split p ps) ∙ ap first_patch (turned_pushed (front (p ∷ ps)) (last_patch (p ∷ ps)))

pub rest_turned : (ps : List PatchValue) → rest (turned ps) ≡ turned (front ps)
rest_turned [] = refl
rest_turned (p ∷ ps) = ap (λ (v : List PatchValue). rest (turned v)) (split p ps) ∙ ap rest (turned_pushed (front (p ∷ ps)) (last_patch (p ∷ ps)))
