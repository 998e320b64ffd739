-- Keys that stand by rank.
use Rattle.std.proofs.Common.{◌≡◌, ◌∙◌, ℕ, ◌+◌, ◌<◌, ◌≤◌, ◌-◌, true, is_some, List, [], ◌∷◌, ◌++◌, length, take, get_or, sym, ap, subst, arith}
use Rattle.std.specs.Prelude.{T}
use Rattle.std.specs.Bool.{passes}
use Rattle.std.specs.Cmp.{both_ways}
use Rattle.std.specs.List.{list_any}
use Rattle.std.specs.Map.{keys_of}
use Rattle.std.specs.Ordering.{is_lt}
use Rattle.std.specs.FinMap as fin
use Rattle.std.specs.FinMap.Entries.{is_some-find}
use Rattle.std.proofs.lemmas.List.{take_more, take_all}
use Rattle.osm_base.specs.Rank.{rank_cmp, is_key}
use Rattle.osm_base.specs.RankLaws.{rank_total}
use Rattle.osm_base.specs.RisingKeys.{rises}
use Rattle.osm_base.specs.declared.key.Key.{Key}
use Rattle.osm_base.proofs.ByRank.{rises_keys, rises_on}
use Rattle.osm_base.proofs.RisingKeys.{same_keys}
use Rattle.osm_base.proofs.Tests.{true_from_T}
use Rattle.osm_table.proofs.OrderLaws.{before_last}

-- one key rises
pub one_rises : (ks : List Key) → T (rises (take 1 ks))
one_rises [] = tt
one_rises (k ∷ ks) = tt

-- and so does one more behind the one before it
pub more_rise : (ks : List Key) (i : ℕ) (d e : Key) → 1 ≤ i → i < length ks → is_lt (rank_cmp (get_or ks (i - 1) d) (get_or ks i e)) ≡ true → T (rises (take i ks)) → T (rises (take (i + 1) ks))
more_rise ks i d e some within less h =
    let before : i - 1 < length ks = omega (arith, some, within) in
    let here : i - 1 + 1 ≡ i = omega (arith, some) in
    let front : take i ks ≡ take (i - 1) ks ++ get_or ks (i - 1) d ∷ [] = ap (λ n. take n ks) (sym here) ∙ take_more ks (i - 1) d before in
    let next : take (i + 1) ks ≡ (take (i - 1) ks ++ get_or ks (i - 1) d ∷ []) ++ get_or ks i e ∷ [] = take_more ks i e within ∙ ap (λ (xs : List Key). xs ++ get_or ks i e ∷ []) front in
    subst (λ (xs : List Key). T (rises xs)) (sym next) (rises_on (take (i - 1) ks) (get_or ks (i - 1) d) (get_or ks i e) (subst (λ (xs : List Key). T (rises xs)) front h) (passes _ less))

behind_rise : (ks : List Key) (k d : Key) → T (rises ks) → 0 < length ks → is_lt (rank_cmp (get_or ks (length ks - 1) d) k) ≡ true → T (rises (ks ++ k ∷ []))
behind_rise ks k d h some less =
    let last : Key = get_or ks (length ks - 1) d in
    let here : length ks - 1 + 1 ≡ length ks = omega (arith, some) in
    let split : ks ≡ take (length ks - 1) ks ++ last ∷ [] = sym (take_all (length ks) ks (omega arith)) ∙ ap (λ n. take n ks) (sym here) ∙ take_more ks (length ks - 1) d (omega (arith, some)) in
    subst (λ (xs : List Key). T (rises (xs ++ k ∷ []))) (sym split) (rises_on (take (length ks - 1) ks) last k (subst (λ (xs : List Key). T (rises xs)) split h) (passes _ less))

-- keys rise on just where the next comes behind the last
pub behind_is : (ks : List Key) (k d : Key) → T (rises ks) → 0 < length ks → is_lt (rank_cmp (get_or ks (length ks - 1) d) k) ≡ rises (ks ++ k ∷ [])
behind_is ks k d h some =
    both_ways _ _ (λ less. true_from_T _ (behind_rise ks k d h some less))
    (λ more. ap is_lt (before_last ks k (length ks - 1) d (passes _ more) (omega (arith, some))))

pub all_rise : (ks : List Key) (i : ℕ) → length ks ≤ i → T (rises (take i ks)) → T (rises ks)
all_rise ks i all h = subst (λ (xs : List Key). T (rises xs)) (take_all i ks all) h

-- keys of entries that stand by rank are those of their map by rank
pub standing_keys : {V : Type 0} (es : List (Key × V)) (ks : List Key) → ks ≡ keys_of es → T (rises ks) → ks ≡ fin.keys (fin.from_entries {R = rank_cmp} es)
standing_keys es ks is h =
    let m = fin.from_entries {R = rank_cmp} es in
    same_keys ks (fin.keys m) h (rises_keys m)
    (λ q. ap (λ (xs : List Key). list_any (is_key q) xs) is ∙ sym (is_some-find rank_cmp q es) ∙ ap is_some (sym (fin.get-from_entries rank_total es q)) ∙ fin.contains_key-keys m q)
