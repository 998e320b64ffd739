-- Entries beside their keys, with one taken out.
use Rattle.std.proofs.Common.{◌≡◌, ℕ, zero, suc, Bool, true, false, cond, List, [], ◌∷◌, length, Option, Some, None, refl, sym, ◌∙◌, ap, arith}
use Rattle.std.specs.Prelude.{slice_get, T}
use Rattle.std.specs.Ordering.{is_lt}
use Rattle.std.specs.List.{zip, remove, IsDistinct, AllByRecursion}
use Rattle.std.specs.Map.{lookup}
use Rattle.std.proofs.lemmas.Map.Keys.{IsDistinct-head, IsDistinct-tail}
use Rattle.std.proofs.lemmas.Option.{same_Some}
use Rattle.osm_base.specs.KeyEq.{eq}
use Rattle.osm_base.specs.Rank.{rank_cmp}
use Rattle.osm_base.specs.RankLaws.{rank_ties, eq_decides}
use Rattle.osm_base.specs.RisingKeys.{rises, is_in}
use Rattle.osm_base.specs.declared.key.Key.{Key}
use Rattle.osm_base.proofs.ByRank.{eq_turned}
use Rattle.osm_base.proofs.Halving.{IsBelow}
use Rattle.osm_base.proofs.Tests.{both_T, first_T, second_T}
use Rattle.osm_table.specs.declared.entry.Entry.{Entry}
use Rattle.osm_table.proofs.OrderLaws.{found_nowhere, later_apart}

below_less : (x : Key) (ks : List Key) (i : ℕ) → IsBelow x ks → IsBelow x (remove ks i)
below_less x [] zero h = tt
below_less x [] (suc i) h = tt
below_less x (k ∷ ks) zero h = second_T (is_lt (rank_cmp x k)) _ h
below_less x (k ∷ ks) (suc i) h = both_T (is_lt (rank_cmp x k)) _ (first_T (is_lt (rank_cmp x k)) _ h) (below_less x ks i (second_T (is_lt (rank_cmp x k)) _ h))

-- the others still rise
pub rises_less : (ks : List Key) (i : ℕ) → T (rises ks) → T (rises (remove ks i))
rises_less [] zero h = tt
rises_less [] (suc i) h = tt
rises_less (k ∷ ks) zero h = second_T _ _ h
rises_less (k ∷ ks) (suc i) h = both_T _ _ (below_less k ks i (first_T _ _ h)) (rises_less ks i (second_T _ _ h))

-- a key isn't among those that it is distinct from
pub none_among : (x : Key) (ks : List Key) → AllByRecursion (λ y. eq x y ≡ false) ks → is_in x ks ≡ false
none_among x [] h = refl
none_among x (k ∷ ks) h = rw (sym (rank_ties x k) ∙ h.0) (none_among x ks h.1)

first_case : (b : Bool) (e : Entry) (o : Option Entry) → (b ≡ true → o ≡ None) → o ≡ cond b None (cond b (Some e) o)
first_case true e o none = none refl
first_case false e o none = refl

later_case : (b c : Bool) (e : Entry) (o : Option Entry) → (b ≡ true → c ≡ false) → cond b (Some e) (cond c None o) ≡ cond c None (cond b (Some e) o)
later_case true true e o apart = let f : true ≡ false = apart refl in cc
later_case true false e o apart = refl
later_case false c e o apart = refl

-- what is found when the entry at the place of a key is gone
pub found_less : (ks : List Key) (es : List Entry) (i : ℕ) (k : Key) → IsDistinct eq ks → length ks ≡ length es → slice_get ks i ≡ Some k → (q : Key) → lookup (eq q) (zip (remove ks i) (remove es i)) ≡ cond (eq k q) None (lookup (eq q) (zip ks es))
found_less [] es i k h len at q = let no : None ≡ Some k = at in cc
found_less (x ∷ ks) [] i k h len at q = absurd (omega (arith, len))
found_less (x ∷ ks) (e ∷ es) zero k h len at q =
    let one : x ≡ k = same_Some x k at in
    first_case (eq q x) e (lookup (eq q) (zip ks es)) (λ t. found_nowhere ks es q (ap (λ (j : Key). is_in j ks) ((eq_decides q x).0 t) ∙ none_among x ks (IsDistinct-head eq x ks h)))
    ∙ ap (λ b. cond b None (cond (eq q x) (Some e) (lookup (eq q) (zip ks es)))) (eq_turned q x ∙ ap (λ (j : Key). eq j q) one)
found_less (x ∷ ks) (e ∷ es) (suc i) k h len at q =
    ap (cond (eq q x) (Some e)) (found_less ks es i k (IsDistinct-tail eq x ks h) (omega (arith, len)) at q)
    ∙ later_case (eq q x) (eq k q) e (lookup (eq q) (zip ks es)) (λ t. ap (eq k) ((eq_decides q x).0 t) ∙ later_apart x ks i k (IsDistinct-head eq x ks h) at)

none_case : (b : Bool) (o : Option Entry) → (b ≡ true → o ≡ None) → o ≡ cond b None o
none_case true o none = none refl
none_case false o none = refl

-- where the key isn't among them nothing is gone
pub found_still : (ks : List Key) (es : List Entry) (k q : Key) → is_in k ks ≡ false → lookup (eq q) (zip ks es) ≡ cond (eq k q) None (lookup (eq q) (zip ks es))
found_still ks es k q apart = none_case (eq k q) (lookup (eq q) (zip ks es)) (λ t. found_nowhere ks es q (ap (λ (j : Key). is_in j ks) (sym ((eq_decides k q).0 t)) ∙ apart))
