-- Keys that rise by rank, with one more behind them.
use Rattle.std.proofs.Common.{◌≡◌, ◌||◌, false, List, [], ◌∷◌, ◌++◌, refl, sym, ap, subst, ◌∙◌}
use Rattle.std.specs.Cmp.{both_ways}
use Rattle.std.specs.FinMap.Entries.{below_all}
use Rattle.std.specs.List.{list_any}
use Rattle.std.specs.Ordering.{is_lt, is_eq}
use Rattle.std.specs.Prelude.{T}
use Rattle.std.specs.Bool.{passes}
use Rattle.std.proofs.lemmas.List.{map_push}
use Rattle.osm_base.proofs.RisingKeys.{key_turned}
use Rattle.osm_base.specs.KeyEq.{eq}
use Rattle.osm_base.specs.Rank.{rank_cmp}
use Rattle.osm_base.specs.RankLaws.{rank_total, rank_ties}
use Rattle.osm_base.specs.RisingKeys.{marked, rises}
use Rattle.osm_base.specs.declared.key.Key.{Key}
use Rattle.osm_base.proofs.ByRank.{rises_on}
use Rattle.osm_base.proofs.Tests.{both_T, first_T, second_T, true_from_T, less_from_T}
use Rattle.opl_line.specs.declared.object.OplObject.{OplObject}
use Rattle.opl_file.specs.Objects.{keys_of}

abbrev IsBelow : Key → List Key → Type 0
IsBelow k ks = T (below_all rank_cmp k (marked ks))

below_front : (k : Key) (ks js : List Key) → IsBelow k (ks ++ js) → IsBelow k ks
below_front k [] js h = tt
below_front k (x ∷ ks) js h = both_T _ _ (first_T _ _ h) (below_front k ks js (second_T _ _ h))

-- the first of rising keys rise
rises_front : (ks js : List Key) → T (rises (ks ++ js)) → T (rises ks)
rises_front [] js h = tt
rises_front (k ∷ ks) js h = both_T _ _ (below_front k ks js (first_T _ _ h)) (rises_front ks js (second_T _ _ h))

below_last : (j k : Key) (ks : List Key) → IsBelow j (ks ++ k ∷ []) → T (is_lt (rank_cmp j k))
below_last j k [] h = first_T _ _ h
below_last j k (x ∷ ks) h = below_last j k ks (second_T _ _ h)

apart : (j k : Key) → T (is_lt (rank_cmp j k)) → eq k j ≡ false
apart j k h = rank_ties k j ∙ key_turned k j ∙ ap is_eq (less_from_T _ h)

-- the last of rising keys is none of those before it
pub last_new : (ks : List Key) (k : Key) → T (rises (ks ++ k ∷ [])) → list_any (eq k) ks ≡ false
last_new [] k h = refl
last_new (j ∷ ks) k h =
    let other : eq k j ≡ false = apart j k (below_last j k ks (first_T _ _ h)) in
    ap (λ b. b || list_any (eq k) ks) other ∙ last_new ks k (second_T _ _ h)

last_two : (ks : List Key) (j k : Key) → T (rises ((ks ++ j ∷ []) ++ k ∷ [])) → T (is_lt (rank_cmp j k))
last_two [] j k h = first_T _ _ (first_T _ _ h)
last_two (i ∷ ks) j k h = last_two ks j k (second_T _ _ h)

-- keys rise on where the next comes after the last
rises_last : (ks : List Key) (j k : Key) → T (rises (ks ++ j ∷ [])) → is_lt (rank_cmp j k) ≡ rises ((ks ++ j ∷ []) ++ k ∷ [])
rises_last ks j k h =
    both_ways _ _
    (λ e. true_from_T _ (rises_on ks j k h (passes _ e)))
    (λ e. true_from_T _ (last_two ks j k (passes _ e)))

-- one key less
pub rises_less : (ks : List Key) (k : Key) → T (rises (ks ++ k ∷ [])) → T (rises ks)
rises_less ks k h = rises_front ks (k ∷ []) h

-- objects' keys rise on where a key comes after the last object's
pub comes_last : (objects front : List OplObject) (last : OplObject) (key : Key) → objects ≡ front ++ last ∷ [] → T (rises (keys_of objects)) → is_lt (rank_cmp last.key key) ≡ rises (keys_of objects ++ key ∷ [])
comes_last objects front last key e h =
    let keys : keys_of objects ≡ keys_of front ++ last.key ∷ [] = ap keys_of e ∙ map_push _ front last in
    rises_last (keys_of front) last.key key (subst (λ ks. T (rises ks)) keys h) ∙ ap (λ ks. rises (ks ++ key ∷ [])) (sym keys)
