-- A loop over keys that keeps those it has seen.
use Rattle.std.proofs.Common.{◌≡◌, ◌+◌, ◌<◌, ℕ, suc, Bool, true, false, not, List, [], ◌∷◌, ◌++◌, length, drop, get_or, Option, Some, refl, sym, ap, ◌∙◌, drop-cons, add-one}
use Rattle.osm_base.specs.Rank.{is_key}
use Rattle.osm_base.specs.declared.key.Key.{Key}
use Rattle.closure.specs.Closure.{with_key}
use Rattle.tool_api.specs.declared.refusal.Refusal.{Refusal}
use Rattle.tool_api.specs.declared.refusal.Refusal.TheVariants.{NamedTwice}
use Rattle.tool_api.specs.Checks.{is_named, twice_test}

now_at : (seen rest : List Key) (k : Key) → is_named seen k ≡ true → twice_test seen (k ∷ rest) ≡ Some (NamedTwice k)
now_at seen rest k has = rw has refl

later_at : (seen rest : List Key) (k : Key) → is_named seen k ≡ false → twice_test seen (k ∷ rest) ≡ twice_test (seen ++ k ∷ []) rest
later_at seen rest k new = rw new refl

pub is_not : (a b : Bool) → a ≡ not b → b ≡ not a
is_not true true e = e
is_not true false e = refl
is_not false true e = refl
is_not false false e = e

-- a key that a set of those seen doesn't take is named twice
pub named_again : (ks seen : List Key) (i : ℕ) (none : Key) (r : Option Refusal) → i < length ks → is_named seen (get_or ks i none) ≡ true → twice_test seen (drop i ks) ≡ r
    → Some (NamedTwice (get_or ks i none)) ≡ r
named_again ks seen i none r lt has before =
    let k = get_or ks i none in
    sym (now_at seen (drop (suc i) ks) k has) ∙ sym (ap (twice_test seen) (drop-cons ks i none lt)) ∙ before

inserted : (seen : List Key) (k : Key) → is_named seen k ≡ false → with_key is_key seen k ≡ seen ++ k ∷ []
inserted seen k new = rw new refl

-- one that it takes is seen from then on
pub named_once : (ks seen seen₁ : List Key) (i : ℕ) (none : Key) (r : Option Refusal) → i < length ks → is_named seen (get_or ks i none) ≡ false → seen₁ ≡ with_key is_key seen (get_or ks i none)
    → twice_test seen (drop i ks) ≡ r → twice_test seen₁ (drop (i + 1) ks) ≡ r
named_once ks seen seen₁ i none r lt new put before =
    let k = get_or ks i none in
    rw add-one (ap (λ (s : List Key). twice_test s (drop (suc i) ks)) (put ∙ inserted seen k new)
    ∙ sym (later_at seen (drop (suc i) ks) k new) ∙ sym (ap (twice_test seen) (drop-cons ks i none lt)) ∙ before)
