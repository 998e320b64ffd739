-- Keys that rise without one of them: what is left where it is taken out at its place, and where it doesn't stand.
use Rattle.std.proofs.Common.{◌≡◌, ℕ, suc, ◌+◌, ◌<◌, ◌&&◌, Bool, true, false, not, cond, List, [], ◌∷◌, length, get_or, refl, sym, ◌∙◌, ap, arith, subst, Ordering}
use Rattle.std.specs.declared.cmp.Ordering.TheVariants.{Less, Equal, Greater}
use Rattle.std.specs.Ordering.{is_lt, is_eq}
use Rattle.std.specs.List.{remove}
use Rattle.std.specs.Prelude.{nat_lt, T}
use Rattle.std.proofs.lemmas.Bool.{ltb-true, lt-ltb, and_parts}
use Rattle.osm_base.specs.declared.key.Key.{Key}
use Rattle.osm_base.specs.Rank.{rank_cmp, is_key}
use Rattle.osm_base.specs.RankLaws.{rank_exact}
use Rattle.osm_base.specs.RisingKeys.{rises, without_key, place_in}
use Rattle.osm_base.proofs.Halving.{IsBelow, below_less}
use Rattle.osm_base.proofs.RisingKeys.{turned}
use Rattle.osm_base.proofs.Tests.{first_T, second_T, less_from_T}

kept_step : (k j : Key) (ks : List Key) → rank_cmp k j ≡ Less → without_key k ks ≡ ks → without_key k (j ∷ ks) ≡ j ∷ ks
kept_step k j ks e h = ap (λ o. cond (not (is_eq o)) (j ∷ without_key k ks) (without_key k ks)) e ∙ ap (λ (xs : List Key). j ∷ xs) h

kept : (k : Key) (ks : List Key) → IsBelow k ks → without_key k ks ≡ ks
kept k [] h = refl
kept k (j ∷ ks) h = kept_step k j ks (less_from_T _ (first_T _ _ h)) (kept k ks (second_T _ _ h))

abbrev IsThere : Key → List Key → Type 0
IsThere k ks = (place_in k ks < length ks) × (is_key k (get_or ks (place_in k ks) k) ≡ true)

abbrev IsNew : Key → List Key → Type 0
IsNew k ks = place_in k ks < length ks → is_key k (get_or ks (place_in k ks) k) ≡ false

-- the list without its head's key or with it, as the orders say
abbrev Left : Key → Key → List Key → Ordering → List Key
Left k j ks o = cond (not (is_eq o)) (j ∷ without_key k ks) (without_key k ks)

below_tied : (k j : Key) (ks : List Key) → rank_cmp k j ≡ Equal → IsBelow j ks → IsBelow k ks
below_tied k j ks e h = subst (λ (x : Key). IsBelow x ks) (sym (rank_exact k j e)) h

out_step : (k j : Key) (ks : List Key) (o : Ordering) → rank_cmp k j ≡ o → IsBelow j ks → IsThere k (j ∷ ks) → (IsThere k ks → remove ks (place_in k ks) ≡ without_key k ks)
    → remove (j ∷ ks) (place_in k (j ∷ ks)) ≡ Left k j ks o
out_step k j ks Less e h there rest =
    let f : is_lt (rank_cmp j k) ≡ false = turned k j Less e in
    let tie = rw f at there.1 in
    let apart : is_key k j ≡ false = ap is_eq e in
    cc
out_step k j ks Equal e h there rest =
    let f : is_lt (rank_cmp j k) ≡ false = turned k j Equal e in
    rw f (sym (kept k ks (below_tied k j ks e h)))
out_step k j ks Greater e h there rest =
    let f : is_lt (rank_cmp j k) ≡ true = turned k j Greater e in
    let one : 1 + place_in k ks ≡ suc (place_in k ks) = omega arith in
    let below : 1 + place_in k ks < suc (length ks) = rw f at there.0 in
    let tie = rw (f, one) at there.1 in
    rw (f, one) (ap (λ (xs : List Key). j ∷ xs) (rest (omega arith, tie)))

out : (k : Key) (ks : List Key) → T (rises ks) → IsThere k ks → remove ks (place_in k ks) ≡ without_key k ks
out k [] h there = absurd (omega (arith, there.0))
out k (j ∷ ks) h there = out_step k j ks (rank_cmp k j) refl (first_T _ _ h) there (out k ks (second_T _ _ h))

none_step : (k j : Key) (ks : List Key) (o : Ordering) → rank_cmp k j ≡ o → IsBelow j ks → IsNew k (j ∷ ks) → (IsNew k ks → ks ≡ without_key k ks) → j ∷ ks ≡ Left k j ks o
none_step k j ks Less e h none rest = ap (λ (xs : List Key). j ∷ xs) (sym (kept k ks (below_less j k ks e h)))
none_step k j ks Equal e h none rest =
    let f : is_lt (rank_cmp j k) ≡ false = turned k j Equal e in
    let g = rw f at none in
    let tie : is_key k j ≡ true = ap is_eq e in
    let apart : is_key k j ≡ false = g (omega arith) in
    cc
none_step k j ks Greater e h none rest =
    let f : is_lt (rank_cmp j k) ≡ true = turned k j Greater e in
    let one : 1 + place_in k ks ≡ suc (place_in k ks) = omega arith in
    let g = rw (f, one) at none in
    ap (λ (xs : List Key). j ∷ xs) (rest (λ l. g (omega arith)))

none : (k : Key) (ks : List Key) → T (rises ks) → IsNew k ks → ks ≡ without_key k ks
none k [] h new = refl
none k (j ∷ ks) h new = none_step k j ks (rank_cmp k j) refl (first_T _ _ h) new (none k ks (second_T _ _ h))

abbrev Stands : Key → List Key → ℕ → Bool
Stands k ks at = nat_lt at (length ks) && is_key k (get_or ks at k)

pub take_there : (k : Key) (ks : List Key) (at : ℕ) → T (rises ks) → at ≡ place_in k ks → Stands k ks at ≡ true → remove ks at ≡ without_key k ks
take_there k ks at h e test =
    let P : ℕ → Type 0 = λ n. Stands k ks n ≡ true in
    let p = and_parts (nat_lt (place_in k ks) (length ks)) _ (subst P e test) in
    ap (λ n. remove ks n) e ∙ out k ks h (ltb-true _ _ p.0, p.1)

pub take_none : (k : Key) (ks : List Key) (at : ℕ) → T (rises ks) → at ≡ place_in k ks → Stands k ks at ≡ false → ks ≡ without_key k ks
take_none k ks at h e test =
    let P : ℕ → Type 0 = λ n. Stands k ks n ≡ false in
    let q = subst P e test in
    none k ks h (λ l. ap (λ b. b && is_key k (get_or ks (place_in k ks) k)) (sym (lt-ltb _ _ l)) ∙ q)
