-- The keys of the pieces go along the way.
use Rattle.std.proofs.Common.{◌≡◌, ◌+◌, ◌-◌, ◌<◌, ◌==◌, ◌++◌, ℕ, ℤ, zero, suc, Bool, true, false, cond, List, [], ◌∷◌, length, map, refl, ap, ◌∙◌, arith}
use Rattle.std.proofs.lemmas.Bool.Decides.{nat_tests}
use Rattle.osm_base.specs.declared.key.Key.{Key}
use Rattle.osm_base.specs.declared.key.Kind.TheVariants as kind
use Rattle.tool_api.specs.Changes.{new_key}
use Rattle.tool_api.specs.Split.{keyed, others}
use Rattle.job_laws.specs.SplitPieces.{new_ways, keys_of, IsOlder}
use Rattle.job_laws.proofs.SplitPartKeys.{others_kept, others_new}

is_same : (m n : ℕ) → n ≡ m + 0 → (m == n) ≡ true
is_same m n e = grind (arith, nat_tests)

is_before : (m n : ℕ) → m < n → (m == n) ≡ false
is_before m n h = grind (arith, nat_tests)

is_past : (m n : ℕ) → n < m → (m == n) ≡ false
is_past m n h = grind (arith, nat_tests)

abbrev Part : Type 0
Part = Key × List ℤ

-- the pieces stay
stay_case : (c : Bool) (j k : Key) (p : List ℤ) (a b : List Part) (ps : List (List ℤ)) → map (λ (q : Part). q.1) a ≡ ps → map (λ (q : Part). q.1) b ≡ ps → map (λ (q : Part). q.1) (cond c ((j, p) ∷ a) ((k, p) ∷ b)) ≡ p ∷ ps
stay_case true j k p a b ps e f = ap (λ (qs : List (List ℤ)). p ∷ qs) e
stay_case false j k p a b ps e f = ap (λ (qs : List (List ℤ)). p ∷ qs) f

module _ (way : Key) (kept : ℕ) where
  stay_from : (i next : ℕ) (ps : List (List ℤ)) → map (λ (q : Part). q.1) (keyed way kept i next ps) ≡ ps
  stay_from i next [] = refl
  stay_from i next (p ∷ ps) = stay_case (i == kept) way (new_key kind.Way next) p (keyed way kept (i + 1) next ps) (keyed way kept (i + 1) (next + 1) ps) ps (stay_from (i + 1) next ps) (stay_from (i + 1) (next + 1) ps)

  pub pieces_stay : (next : ℕ) (ps : List (List ℤ)) → map (λ (q : Part). q.1) (keyed way kept 0 next ps) ≡ ps
  pieces_stay next ps = stay_from 0 next ps

  -- the part at a number
  head_kept : (i next : ℕ) (p : List ℤ) (ps : List (List ℤ)) → kept ≡ i + 0 → keyed way kept i next (p ∷ ps) ≡ (way, p) ∷ keyed way kept (i + 1) next ps
  head_kept i next p ps is = ap (λ c. cond c ((way, p) ∷ keyed way kept (i + 1) next ps) ((new_key kind.Way next, p) ∷ keyed way kept (i + 1) (next + 1) ps)) (is_same i kept is)

  head_new : (i next : ℕ) (p : List ℤ) (ps : List (List ℤ)) → (i == kept) ≡ false → keyed way kept i next (p ∷ ps) ≡ (new_key kind.Way next, p) ∷ keyed way kept (i + 1) (next + 1) ps
  head_new i next p ps is = ap (λ c. cond c ((way, p) ∷ keyed way kept (i + 1) next ps) ((new_key kind.Way next, p) ∷ keyed way kept (i + 1) (next + 1) ps)) is

  -- The keys of all.

  past : (i next : ℕ) (ps : List (List ℤ)) → kept < i → keys_of (keyed way kept i next ps) ≡ new_ways next (length ps)
  past i next [] h = refl
  past i next (p ∷ ps) h = ap keys_of (head_new i next p ps (is_past i kept h)) ∙ ap (λ (ks : List Key). new_key kind.Way next ∷ ks) (past (i + 1) (next + 1) ps (omega arith))

  along_from : (d i next : ℕ) (ps : List (List ℤ)) → kept ≡ i + d → d < length ps → keys_of (keyed way kept i next ps) ≡ new_ways next d ++ way ∷ new_ways (next + d) (length ps - (d + 1))
  along_from d i next [] is h = absurd (omega (arith, h))
  along_from zero i next (p ∷ ps) is h =
      let n : next ≡ next + 0 = omega arith in
      let m : length ps ≡ length (p ∷ ps) - (0 + 1) = omega arith in
      ap keys_of (head_kept i next p ps is) ∙ ap (λ (ks : List Key). way ∷ ks) (past (i + 1) next ps (omega (arith, is)) ∙ (λ j. new_ways (n j) (m j)))
  along_from (suc d) i next (p ∷ ps) is h =
      let n : (next + 1) + d ≡ next + suc d = omega arith in
      let m : length ps - (d + 1) ≡ length (p ∷ ps) - (suc d + 1) = omega arith in
      ap keys_of (head_new i next p ps (is_before i kept (omega (arith, is))))
      ∙ ap (λ (ks : List Key). new_key kind.Way next ∷ ks) (along_from d (i + 1) (next + 1) ps (omega (arith, is)) (omega (arith, h)) ∙ (λ j. new_ways (next + 1) d ++ way ∷ new_ways (n j) (m j)))

  pub along : (next : ℕ) (ps : List (List ℤ)) → kept < length ps → keys_of (keyed way kept 0 next ps) ≡ new_ways next kept ++ way ∷ new_ways (next + kept) (length ps - (kept + 1))
  along next ps h = along_from kept 0 next ps (omega arith) h

  -- The keys of the new ways.

  new_past : (i next : ℕ) (ps : List (List ℤ)) → kept < i → IsOlder way next → keys_of (others way (keyed way kept i next ps)) ≡ new_ways next (length ps)
  new_past i next [] h fresh = refl
  new_past i next (p ∷ ps) h fresh =
      ap (λ (qs : List Part). keys_of (others way qs)) (head_new i next p ps (is_past i kept h)) ∙ ap keys_of (others_new way (new_key kind.Way next) p (keyed way kept (i + 1) (next + 1) ps) (fresh next (omega arith)))
      ∙ ap (λ (ks : List Key). new_key kind.Way next ∷ ks) (new_past (i + 1) (next + 1) ps (omega arith) (λ n low. fresh n (omega arith)))

  new_from : (d i next : ℕ) (ps : List (List ℤ)) → kept ≡ i + d → d < length ps → IsOlder way next → keys_of (others way (keyed way kept i next ps)) ≡ new_ways next (length ps - 1)
  new_from d i next [] is h fresh = absurd (omega (arith, h))
  new_from zero i next (p ∷ ps) is h fresh =
      let m : length ps ≡ length (p ∷ ps) - 1 = omega arith in
      ap (λ (qs : List Part). keys_of (others way qs)) (head_kept i next p ps is) ∙ ap keys_of (others_kept way p (keyed way kept (i + 1) next ps))
      ∙ new_past (i + 1) next ps (omega (arith, is)) fresh ∙ ap (new_ways next) m
  new_from (suc d) i next (p ∷ ps) is h fresh =
      let m : suc (length ps - 1) ≡ length (p ∷ ps) - 1 = omega (arith, h) in
      ap (λ (qs : List Part). keys_of (others way qs)) (head_new i next p ps (is_before i kept (omega (arith, is))))
      ∙ ap keys_of (others_new way (new_key kind.Way next) p (keyed way kept (i + 1) (next + 1) ps) (fresh next (omega arith)))
      ∙ ap (λ (ks : List Key). new_key kind.Way next ∷ ks) (new_from d (i + 1) (next + 1) ps (omega (arith, is)) (omega (arith, h)) (λ n low. fresh n (omega arith)))
      ∙ ap (new_ways next) m

  pub new_along : (next : ℕ) (ps : List (List ℤ)) → kept < length ps → IsOlder way next → keys_of (others way (keyed way kept 0 next ps)) ≡ new_ways next (length ps - 1)
  new_along next ps h fresh = new_from kept 0 next ps (omega arith) h fresh
