-- Places of keys: what becomes of them when a key is put and taken back.
use Rattle.std.proofs.Common.{◌≡◌, ℕ, zero, suc, ◌+◌, ◌<◌, ◌≤◌, ◌||◌, Bool, true, false, cond, is_some, List, [], ◌∷◌, ◌++◌, length, take, get_or, Option, Some, None, refl, sym, ◌∙◌, ap, arith, subst}
use Rattle.std.specs.Cmp.{IsEquivalence}
use Rattle.std.specs.List.{list_any, IsDistinct, AllByRecursion}
use Rattle.std.specs.Option.{unwrap_or}
use Rattle.std.specs.Prelude.{slice_get, IfNone, IfSome, T}
use Rattle.std.proofs.lemmas.List.{take_more, length-take-le}
use Rattle.std.proofs.lemmas.List.Folds.{list_any-append}
use Rattle.std.proofs.lemmas.Map.Keys.{IsDistinct-push}
use Rattle.std.proofs.lemmas.Option.{same_Some, slice_get_within}
use Rattle.osm_base.specs.KeyEq.{eq}
use Rattle.osm_base.specs.Rank.{is_key}
use Rattle.osm_base.specs.RankLaws.{rank_ties, eq_decides}
use Rattle.osm_base.specs.RisingKeys.{rises, is_in}
use Rattle.osm_base.specs.declared.key.Key.{Key}
use Rattle.osm_base.proofs.ByRank.{eq_turned}
use Rattle.osm_base.proofs.Halving.{IsBelow}
use Rattle.osm_base.proofs.RisingKeys.{key_turned}
use Rattle.osm_base.proofs.Tests.{both_T, first_T, second_T}
use Rattle.osm_table.specs.InOrder.{IsPlace}
use Rattle.osm_table.proofs.OrderLaws.{eq_itself, neither}

pub eq_laws : IsEquivalence eq
eq_laws = record { refl = eq_itself; symm = eq_turned; congr = λ x y z e. ap (λ (k : Key). eq k z) ((eq_decides x y).0 e) }

-- `==` finds a key where the rank order does
any_key : (k : Key) (ks : List Key) → list_any (eq k) ks ≡ is_in k ks
any_key k [] = refl
any_key k (x ∷ ks) = λ i. rank_ties k x i || any_key k ks i

-- a key stands where it is
pub in_at : (ks : List Key) (k : Key) (i : ℕ) → slice_get ks i ≡ Some k → is_in k ks ≡ false → ⊥
in_at [] k i at h = let no : None ≡ Some k = at in cc
in_at (x ∷ ks) k zero at h =
    let one : is_key k x ≡ true = sym (rank_ties k x) ∙ subst (λ (j : Key). eq k j ≡ true) (sym (same_Some x k at)) (eq_itself k) in
    let no : true ≡ false = sym one ∙ (neither _ _ h).0 in
    cc
in_at (x ∷ ks) k (suc i) at h = in_at ks k i at (neither _ _ h).1

at_end : (ks : List Key) (k : Key) → slice_get (ks ++ k ∷ []) (length ks) ≡ Some k
at_end [] k = refl
at_end (x ∷ ks) k = at_end ks k

at_still : (ks : List Key) (k q : Key) (i : ℕ) → slice_get ks i ≡ Some q → slice_get (ks ++ k ∷ []) i ≡ Some q
at_still [] k q i at = let no : None ≡ Some q = at in cc
at_still (x ∷ ks) k q zero at = at
at_still (x ∷ ks) k q (suc i) at = at_still ks k q i at

at_before : (ks : List Key) (k q : Key) (i : ℕ) → eq k q ≡ false → slice_get (ks ++ k ∷ []) i ≡ Some q → slice_get ks i ≡ Some q
at_before [] k q zero apart at =
    let no : true ≡ false = sym ((eq_decides k q).1 (same_Some k q at)) ∙ apart in
    cc
at_before [] k q (suc i) apart at = at
at_before (x ∷ ks) k q zero apart at = at
at_before (x ∷ ks) k q (suc i) apart at = at_before ks k q i apart at

more_apart : (a b : Bool) → a ≡ false → b ≡ false → (a || (b || false)) ≡ false
more_apart true b e f = e
more_apart false true e f = f
more_apart false false e f = refl

-- One key more.

put_step : (ks : List Key) (k q : Key) (p : Option ℕ) (b : Bool) → eq k q ≡ b → IsPlace ks q p → IsPlace (ks ++ k ∷ []) q (cond b (Some (length ks)) p)
put_step ks k q p true is h = at_end ks k ∙ ap Some ((eq_decides k q).0 is)
put_step ks k q None false is h = list_any-append (is_key q) ks (k ∷ []) ∙ more_apart (is_in q ks) (is_key q k) h (key_turned q k ∙ sym (rank_ties k q) ∙ is)
put_step ks k q (Some i) false is h = at_still ks k q i h

-- the new one has that behind the others
pub place_put : (ks : List Key) (k q : Key) (p : Option ℕ) → IsPlace ks q p → IsPlace (ks ++ k ∷ []) q (cond (eq k q) (Some (length ks)) p)
place_put ks k q p h = put_step ks k q p (eq k q) refl h

-- one key more of those that are gone over
pub place_more : (ks : List Key) (i : ℕ) (d q : Key) (p new : Option ℕ) → i < length ks → new ≡ cond (eq (get_or ks i d) q) (Some i) p → IsPlace (take i ks) q p → IsPlace (take (i + 1) ks) q new
place_more ks i d q p new l is h =
    let k = get_or ks i d in
    let long : length (take i ks) ≡ i = length-take-le i ks (omega (arith, l)) in
    subst (λ (js : List Key). IsPlace js q new) (sym (take_more ks i d l))
    (subst (IsPlace (take i ks ++ k ∷ []) q) (ap (λ n. cond (eq k q) (Some n) p) long ∙ sym is) (place_put (take i ks) k q p h))

pub distinct_put : (ks : List Key) (k : Key) → IsDistinct eq ks → is_in k ks ≡ false → IsDistinct eq (ks ++ k ∷ [])
distinct_put ks k h new = IsDistinct-push eq_laws ks k h (any_key k ks ∙ new)

-- One key taken back.

below_front : (x k : Key) (ks : List Key) → IsBelow x (ks ++ k ∷ []) → IsBelow x ks
below_front x k [] h = tt
below_front x k (y ∷ ks) h = both_T _ _ (first_T _ _ h) (below_front x k ks (second_T _ _ h))

pub rises_front : (ks : List Key) (k : Key) → T (rises (ks ++ k ∷ [])) → T (rises ks)
rises_front [] k h = tt
rises_front (x ∷ ks) k h = both_T _ _ (below_front x k ks (first_T _ _ h)) (rises_front ks k (second_T _ _ h))

each_front : (P : Key → Type 0) (ks : List Key) (k : Key) → AllByRecursion P (ks ++ k ∷ []) → AllByRecursion P ks
each_front P [] k h = tt
each_front P (x ∷ ks) k h = (h.0, each_front P ks k h.1)

pub distinct_front : (ks : List Key) (k : Key) → IsDistinct eq (ks ++ k ∷ []) → IsDistinct eq ks
unfolding IsDistinct
distinct_front [] k h = tt
distinct_front (x ∷ ks) k h = (each_front _ ks k h.0, distinct_front ks k h.1)

back_step : (ks : List Key) (k q : Key) (p : Option ℕ) (b : Bool) → eq k q ≡ b → is_in k ks ≡ false → IsPlace (ks ++ k ∷ []) q p → IsPlace ks q (cond b None p)
back_step ks k q p true is new h = ap (λ (j : Key). is_in j ks) (sym ((eq_decides k q).0 is)) ∙ new
back_step ks k q None false is new h = (neither (is_in q ks) (is_key q k || false) (sym (list_any-append (is_key q) ks (k ∷ [])) ∙ h)).0
back_step ks k q (Some i) false is new h = at_before ks k q i is h

pub place_back : (ks : List Key) (k q : Key) (p : Option ℕ) → is_in k ks ≡ false → IsPlace (ks ++ k ∷ []) q p → IsPlace ks q (cond (eq k q) None p)
place_back ks k q p new h = back_step ks k q p (eq k q) refl new h

-- A key put that is there.

same_step : (ks : List Key) (k q : Key) (i : ℕ) (p : Option ℕ) (b : Bool) → eq k q ≡ b → slice_get ks i ≡ Some k → IsPlace ks q p → IsPlace ks q (cond b (Some i) p)
same_step ks k q i p true is at h = at ∙ ap Some ((eq_decides k q).0 is)
same_step ks k q i p false is at h = h

pub place_same : (ks : List Key) (k q : Key) (i : ℕ) (p : Option ℕ) → slice_get ks i ≡ Some k → IsPlace ks q p → IsPlace ks q (cond (eq k q) (Some i) p)
place_same ks k q i p at h = same_step ks k q i p (eq k q) refl at h

-- a place that is kept, or that behind the others
pub there : (ks : List Key) (k : Key) (kept : Option ℕ) (i : ℕ) → i ≡ unwrap_or kept (length ks) → i < length ks → IsPlace ks k kept → slice_get ks i ≡ Some k
there ks k None i is within h = absurd (omega (arith, is, within))
there ks k (Some j) i is within h = ap (λ n. slice_get ks n) is ∙ h

pub nowhere : (ks : List Key) (k : Key) (kept : Option ℕ) (i : ℕ) → i ≡ unwrap_or kept (length ks) → length ks ≤ i → IsPlace ks k kept → (is_in k ks ≡ false) × (i ≡ length ks)
nowhere ks k None i is behind h = (h, is)
nowhere ks k (Some j) i is behind h = absurd (omega (arith, is, behind, slice_get_within ks j k h))

-- what a place tells
pub place_none : (ks : List Key) (k : Key) (p : Option ℕ) → p ≡ None → IsPlace ks k p → is_in k ks ≡ false
place_none ks k p is h = subst (IsPlace ks k) is h

pub place_some : (ks : List Key) (k : Key) (p : Option ℕ) (i : ℕ) → p ≡ Some i → IsPlace ks k p → slice_get ks i ≡ Some k
place_some ks k p i is h = subst (IsPlace ks k) is h

-- what holds holds where there is none
pub when_none : {A P : Type 0} (o : Option A) → P → IfNone o P
when_none None p = p
when_none (Some a) p = tt

pub if_place : (ks : List Key) (k : Key) (p : Option ℕ) → IsPlace ks k p → IfSome p (λ i. slice_get ks i ≡ Some k)
if_place ks k None h = tt
if_place ks k (Some i) h = h

pub if_no_place : (ks : List Key) (k : Key) (p : Option ℕ) → IsPlace ks k p → IfNone p (is_in k ks ≡ false)
if_no_place ks k None h = h
if_no_place ks k (Some i) h = tt
