-- Sets of keys.
use Rattle.std.proofs.Common.{◌≡◌, ◌||◌, Bool, true, false, cond, List, [], ◌∷◌, ◌++◌, fold, refl, ap, ◌∙◌}
use Rattle.std.specs.List.{list_any}
use Rattle.std.proofs.Math.Bool.{or-false, or_comm}
use Rattle.std.proofs.lemmas.List.Folds.{list_any-append}
use Rattle.indexmap.specs.IndexSet.{insert_key}
use Rattle.osm_base.specs.Rank.{is_key}
use Rattle.osm_base.specs.RankLaws.{rank_ties}
use Rattle.osm_base.specs.KeyEq.{eq}
use Rattle.osm_base.specs.declared.key.Key.{Key}
use Rattle.osm_base.proofs.RisingKeys.{one_key}
use Rattle.download.specs.Filter.{among}
use Rattle.download.specs.FilterCode.{with_key, key_set}

or_turned : (a b c : Bool) → ((a || b) || c) ≡ (b || (a || c))
or_turned true true c = refl
or_turned true false c = refl
or_turned false b c = refl

-- `==` and the order find the same keys
pub any_same : (k : Key) (ks : List Key) → list_any (eq k) ks ≡ among ks k
any_same k [] = refl
any_same k (x ∷ xs) = λ i. rank_ties k x i || any_same k xs i

-- an inserted key comes last unless it is there
pub inserted : (ks new : List Key) (key : Key) → new ≡ insert_key eq ks key → new ≡ with_key ks key
inserted ks new key e = e ∙ ap (λ b. cond b ks (ks ++ key ∷ [])) (any_same key ks)

there : (ks : List Key) (key k : Key) (b : Bool) → is_key k key ≡ b → among ks key ≡ true → among ks k ≡ (b || among ks k)
there ks key k true is has = ap (among ks) (one_key k key is) ∙ has
there ks key k false is has = refl

by_test : (ks : List Key) (key k : Key) (b : Bool) → among ks key ≡ b → among (cond b ks (ks ++ key ∷ [])) k ≡ (is_key k key || among ks k)
by_test ks key k true has = there ks key k (is_key k key) refl has
by_test ks key k false has = list_any-append (is_key k) ks (key ∷ []) ∙ ap (λ b. among ks k || b) (or-false (is_key k key)) ∙ or_comm (among ks k) (is_key k key)

in_set : (keys set : List Key) (k : Key) → among (fold with_key set keys) k ≡ (among set k || among keys k)
in_set [] set k = elim (among set k) as (λ b. b ≡ (b || false)) [ true ↦ refl | false ↦ refl ]
in_set (x ∷ xs) set k =
    in_set xs (with_key set x) k
    ∙ ap (λ b. b || among xs k) (by_test set x k (among set x) refl)
    ∙ or_turned (is_key k x) (among set k) (among xs k)

-- a set that is filled with the keys of a list has just these
pub set_of : (keys : List Key) → among (key_set keys) ≡ among keys
set_of keys i k = in_set keys [] k i
