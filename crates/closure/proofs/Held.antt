-- Keys put one by one: which are there in the end.
use Rattle.std.proofs.Common.{◌≡◌, ◌||◌, Bool, true, false, List, [], ◌∷◌, ◌++◌, fold, if◌then◌else◌, refl, ap, sym, ◌∙◌}
use Rattle.std.proofs.Math.Bool.{or-false}
use Rattle.std.proofs.lemmas.List.Folds.{list_any-append}
use Rattle.osm_base.specs.declared.key.Key.{Key}
use Rattle.osm_base.specs.Rank.{is_key}
use Rattle.osm_base.proofs.RisingKeys.{one_key}
use Rattle.closure.specs.Closure.{has, with_key}

-- a key that is there already
known : (s k r : Bool) → (k ≡ true → s ≡ true) → (s || r) ≡ (s || (k || r))
known true k r h = refl
known false true r h = let f : false ≡ true = h refl in cc
known false false r h = refl

-- one that is new
fresh : (s k r : Bool) → ((s || (k || false)) || r) ≡ (s || (k || r))
fresh true k r = refl
fresh false true r = refl
fresh false false r = refl

step : (q k : Key) (ks more : List Key) (b : Bool) → has is_key ks k ≡ b → (has is_key (if b then ks else ks ++ k ∷ []) q || has is_key more q) ≡ (has is_key ks q || has is_key (k ∷ more) q)
step q k ks more true is = known (has is_key ks q) (is_key q k) (has is_key more q) (λ e. ap (has is_key ks) (one_key q k e) ∙ is)
step q k ks more false is = ap (λ b. b || has is_key more q) (list_any-append (is_key q) ks (k ∷ [])) ∙ fresh (has is_key ks q) (is_key q k) (has is_key more q)

-- those that were, and those that were put
pub has_all : (ks more : List Key) (q : Key) → has is_key (fold (with_key is_key) ks more) q ≡ (has is_key ks q || has is_key more q)
has_all ks [] q = sym (or-false (has is_key ks q))
has_all ks (k ∷ more) q = has_all (with_key is_key ks k) more q ∙ step q k ks more (has is_key ks k) refl
