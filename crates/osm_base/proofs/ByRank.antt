-- The keys of a finite map by rank: what lists are they, and what is the least of them that passes a test.
use Rattle.std.proofs.Common.{◌≡◌, is_some, ◌&&◌, Bool, true, false, cond, List, [], ◌∷◌, ◌++◌, Option, Some, None, refl, sym, ◌∙◌, ap, subst, Ordering}
use Rattle.std.specs.declared.cmp.Ordering.TheVariants.{Less}
use Rattle.std.specs.Bool.{passes}
use Rattle.std.specs.Ordering.{is_lt}
use Rattle.std.specs.Cmp.{eq_by_cmp_equiv}
use Rattle.std.specs.List.{IsDistinct, AllByRecursion, filter, find, dedup, dedup_from}
use Rattle.std.specs.List.Sorted.{IsSorted, IsStrictlySortedBy, IsPermutation}
use Rattle.std.specs.Map.{keys_of}
use Rattle.std.specs.Prelude.{T}
use Rattle.std.specs.FinMap as fin
use Rattle.std.specs.FinMap.Entries.{below_all, is_sorted, is_some-find}
use Rattle.std.proofs.lemmas.List.Kept.{IsStrictlySortedBy-dedup}
use Rattle.std.proofs.lemmas.List.Sorted.{list_any-IsPermutation}
use Rattle.std.proofs.lemmas.Map.Keys.{sorted_head, sorted_tail, IsDistinct-IsPermutation, IsDistinct-head, IsDistinct-tail}
use Rattle.osm_base.specs.declared.key.Key.{Key}
use Rattle.osm_base.specs.Rank.{rank_cmp, is_key}
use Rattle.osm_base.specs.RankLaws.{rank_total, rank_ties}
use Rattle.osm_base.specs.KeyEq.{eq}
use Rattle.osm_base.specs.RisingKeys.{marked, rises, is_in}
use Rattle.osm_base.proofs.RisingKeys.{same_keys, rises_filter, in_filter}
use Rattle.osm_base.proofs.Tests.{both_T, first_T, second_T, less_from_T}

pub eq_turned : (x y : Key) → eq x y ≡ eq y x
eq_turned x y = rank_ties x y ∙ (eq_by_cmp_equiv rank_total).symm x y ∙ sym (rank_ties y x)

dedup_one : (k : Key) (ks : List Key) → IsDistinct eq (k ∷ ks) → dedup_from eq k ks ≡ k ∷ ks
dedup_one k [] d = refl
dedup_one k (x ∷ xs) d = rw (eq_turned x k ∙ (IsDistinct-head eq k (x ∷ xs) d).0, dedup_one x xs (IsDistinct-tail eq k (x ∷ xs) d)) refl

dedup_distinct : (ks : List Key) → IsDistinct eq ks → dedup eq ks ≡ ks
dedup_distinct [] d = refl
dedup_distinct (k ∷ ks) d = dedup_one k ks d

strict : (ks : List Key) → IsSorted rank_cmp ks → IsDistinct eq ks → IsStrictlySortedBy rank_cmp ks
strict ks s d = subst (IsStrictlySortedBy rank_cmp) (dedup_distinct ks d) (IsStrictlySortedBy-dedup rank_total {E = eq} rank_ties ks s)

below : (k : Key) (ks : List Key) → AllByRecursion (λ y. rank_cmp k y ≡ Less) ks → T (below_all rank_cmp k (marked ks))
below k [] h = tt
below k (x ∷ xs) h = both_T _ _ (subst (λ (o : Ordering). T (is_lt o)) (sym h.0) tt) (below k xs h.1)

-- keys in strict order, as std says it, rise
pub rises_strictly : (ks : List Key) → IsStrictlySortedBy rank_cmp ks → T (rises ks)
rises_strictly [] h = tt
rises_strictly (k ∷ ks) h = both_T _ _ (below k ks (sorted_head rank_cmp k ks h)) (rises_strictly ks (sorted_tail rank_cmp k ks h))

below_on : (i j k : Key) (ks : List Key) → T (below_all rank_cmp i (marked (ks ++ j ∷ []))) → T (is_lt (rank_cmp j k)) → T (below_all rank_cmp i (marked ((ks ++ j ∷ []) ++ k ∷ [])))
below_on i j k [] h l = both_T _ _ (first_T _ _ h) (both_T _ _ (passes _ (ap is_lt (rank_total.trans i j k (less_from_T _ (first_T _ _ h)) (less_from_T _ l)))) tt)
below_on i j k (x ∷ ks) h l = both_T _ _ (first_T _ _ h) (below_on i j k ks (second_T _ _ h) l)

-- keys rise on where the next comes behind the last
pub rises_on : (ks : List Key) (j k : Key) → T (rises (ks ++ j ∷ [])) → T (is_lt (rank_cmp j k)) → T (rises ((ks ++ j ∷ []) ++ k ∷ []))
rises_on [] j k h l = both_T _ _ (both_T _ _ l tt) tt
rises_on (i ∷ ks) j k h l = both_T _ _ (below_on i j k ks (first_T _ _ h) l) (rises_on ks j k (second_T _ _ h) l)

below_marked : {V : Type 0} (k : Key) (es : List (Key × V)) → T (below_all rank_cmp k es) → T (below_all rank_cmp k (marked (keys_of es)))
below_marked k [] h = tt
below_marked k (e ∷ es) h = both_T _ _ (first_T _ (below_all rank_cmp k es) h) (below_marked k es (second_T (is_lt (rank_cmp k e.0)) _ h))

-- the keys of sorted entries rise
pub rises_entries : {V : Type 0} (es : List (Key × V)) → T (is_sorted rank_cmp es) → T (rises (keys_of es))
rises_entries [] h = tt
rises_entries (e ∷ es) h = both_T _ _ (below_marked e.0 es (first_T _ (is_sorted rank_cmp es) h)) (rises_entries es (second_T (below_all rank_cmp e.0 es) _ h))

module _ {V : Type 0} where
  -- the keys of a map rise
  pub rises_keys : (m : fin.FinMap rank_cmp V) → T (rises (fin.keys m))
  rises_keys m = rises_entries (fin.entries m) (fin.entries_sorted m)

  -- distinct keys in order are those of the map that their entries make
  pub by_rank : (es : List (Key × V)) (ks : List Key) → IsSorted rank_cmp ks → IsPermutation (keys_of es) ks → IsDistinct eq (keys_of es) → ks ≡ fin.keys (fin.from_entries {R = rank_cmp} es)
  by_rank es ks s p d =
      let m = fin.from_entries {R = rank_cmp} es in
      same_keys ks (fin.keys m) (rises_strictly ks (strict ks s (IsDistinct-IsPermutation eq eq_turned (keys_of es) ks p d))) (rises_keys m)
      (λ q. sym (list_any-IsPermutation (is_key q) (keys_of es) ks p) ∙ sym (is_some-find rank_cmp q es) ∙ ap is_some (sym (fin.get-from_entries rank_total es q)) ∙ fin.contains_key-keys m q)

  -- a rising list of just the map's keys that pass a test is the filter of its keys
  pub sorted_filter : (p : Key → Bool) (m : fin.FinMap rank_cmp V) (ks : List Key) → T (rises ks) → ((q : Key) → is_in q ks ≡ (p q && is_in q (fin.keys m))) → ks ≡ filter p (fin.keys m)
  sorted_filter p m ks s alike = same_keys ks (filter p (fin.keys m)) s (rises_filter p (fin.keys m) (rises_keys m)) (λ q. alike q ∙ sym (in_filter p q (fin.keys m)))

abbrev first_of : List Key → Option Key
first_of [] = None
first_of (k ∷ ks) = Some k

first_case : (b : Bool) (k : Key) (ks : List Key) (o : Option Key) → o ≡ first_of ks → cond b (Some k) o ≡ first_of (cond b (k ∷ ks) ks)
first_case true k ks o e = refl
first_case false k ks o e = e

find_filter : (p : Key → Bool) (ks : List Key) → find p ks ≡ first_of (filter p ks)
find_filter p [] = refl
find_filter p (k ∷ ks) = first_case (p k) k (filter p ks) _ (find_filter p ks)

-- a key that passes is in both or neither
alike : (b m n : Bool) → (b ≡ true → m ≡ n) → (b && m) ≡ (b && n)
alike true m n h = h refl
alike false m n h = refl

-- The least key that passes a test is the same in two maps that both have each key that passes.
pub same_least : {V W : Type 0} (p : Key → Bool) (m : fin.FinMap rank_cmp V) (n : fin.FinMap rank_cmp W)
    → ((k : Key) → p k ≡ true → is_in k (fin.keys m) ≡ is_in k (fin.keys n)) → find p (fin.keys m) ≡ find p (fin.keys n)
same_least p m n both =
    let same : filter p (fin.keys m) ≡ filter p (fin.keys n) =
    sorted_filter p n (filter p (fin.keys m)) (rises_filter p (fin.keys m) (rises_keys m)) (λ q. in_filter p q (fin.keys m) ∙ alike (p q) _ _ (both q)) in
    find_filter p (fin.keys m) ∙ ap first_of same ∙ sym (find_filter p (fin.keys n))
