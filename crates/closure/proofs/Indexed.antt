-- An index beside a list of keys finds those of the list: by the derived `==`, where contracts test by rank.
use Rattle.std.proofs.Common.{◌≡◌, ◌||◌, Bool, true, false, cond, List, [], ◌∷◌, ◌++◌, refl, sym, ap, ◌∙◌}
use Rattle.std.specs.List.{list_any}
use Rattle.std.proofs.lemmas.List.Folds.{list_any-append}
use Rattle.osm_base.specs.declared.key.Key.{Key}
use Rattle.osm_base.specs.KeyEq.{eq}
use Rattle.osm_base.specs.Rank.{is_key}
use Rattle.osm_base.specs.RankLaws.{rank_ties}
use Rattle.osm_base.proofs.RisingKeys.{key_turned}
use Rattle.closure.specs.Closure.{has}

-- both tests find the same keys
pub found : (k : Key) (ks : List Key) → has eq ks k ≡ has is_key ks k
found k [] = refl
found k (x ∷ xs) = λ i. rank_ties k x i || found k xs i

either : (a b : Bool) → cond a true b ≡ (b || (a || false))
either true true = refl
either true false = refl
either false true = refl
either false false = refl

-- with one key more in both
pub found_too : (ks : List Key) (old new : Key → Bool) (k : Key) → ((q : Key) → old q ≡ has is_key ks q) → ((q : Key) → new q ≡ cond (eq k q) true (old q)) → (q : Key) → new q ≡ has is_key (ks ++ k ∷ []) q
found_too ks old new k same put q =
    put q ∙ ap (λ b. cond b true (old q)) (rank_ties k q ∙ key_turned k q) ∙ either (is_key q k) (old q)
    ∙ ap (λ b. b || (is_key q k || false)) (same q) ∙ sym (list_any-append (is_key q) ks (k ∷ []))
