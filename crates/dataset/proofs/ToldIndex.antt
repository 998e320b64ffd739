-- The index of what the objects refer to that are told of as living, object by object.
use Rattle.std.proofs.Common.{◌≡◌, ℕ, ◌+◌, ◌<◌, ◌≤◌, zero, suc, ◌||◌, Bool, true, false, cond, is_some, Option, Some, None, List, [], ◌∷◌, ◌++◌, length, take, get_or, refl, sym, subst, ◌∙◌, ap, arith}
use Rattle.std.specs.Option.{option_map, unwrap_or}
use Rattle.std.specs.List.{AllByRecursion, IsDistinct}
use Rattle.std.specs.FinMap as fin
use Rattle.std.proofs.lemmas.List.{take_more, take_all}
use Rattle.std.proofs.lemmas.List.Folds.{list_any-append}
use Rattle.std.proofs.lemmas.Map.Keys.{IsDistinct-head, IsDistinct-tail}
use Rattle.osm_base.specs.KeyEq.{eq}
use Rattle.osm_base.specs.Rank.{is_key}
use Rattle.osm_base.specs.RankLaws.{rank_ties}
use Rattle.osm_base.specs.RisingKeys.{is_in}
use Rattle.osm_base.specs.declared.key.Key.{Key}
use Rattle.osm_base.proofs.RisingKeys.{one_key, key_turned}
use Rattle.osm_table.specs.declared.entry.Entry.{Entry}
use Rattle.osm_table.specs.declared.told.Told.{Told}
use Rattle.osm_table.specs.Told.{ToldEntries, ToldValue, entry_told, table_told}
use Rattle.osm_table.proofs.TableTold.{table_told_at}
use Rattle.ref_index.specs.declared.pair.Pair.{Pair}
use Rattle.ref_index.specs.Bag.{Bag, count, times, pair_cmp}
use Rattle.dataset.specs.Exact.{IsExact, refs_at, times_key, pairs_with}
use Rattle.dataset.specs.ToldIndex.{refs_told}
use Rattle.dataset.proofs.Exactness.{listed_pairs}
use Rattle.dataset.proofs.Whole.{distinct_keys}

-- the entry of an object of which no more is known than what is told
abbrev entry_at : ToldEntries → Key → Option Entry
entry_at told k = option_map entry_told (fin.get told k)

-- the pairs of the objects among some keys are there, each as often as it stands
abbrev pub AreIndexed : ToldEntries → List Key → Bag → Type 0
AreIndexed told ks bag = (of user : Key) → count bag (record { of = of; user = user }) ≡ cond (is_in user ks) (times_key of (refs_at (entry_at told user))) 0

pub none_indexed : (told : ToldEntries) (bag : Bag) → bag ≡ fin.empty → AreIndexed told [] bag
none_indexed told bag none of user = ap (λ (b : Bag). count b (record { of = of; user = user })) none ∙ ap (λ (o : Option ℕ). unwrap_or o 0) (fin.get-empty pair_cmp (record { of = of; user = user }))

turned : (x y : Key) → eq x y ≡ false → is_key y x ≡ false
turned x y e = key_turned y x ∙ sym (rank_ties x y) ∙ e

-- a key stands once among distinct ones
pub apart : (x : Key) (ks : List Key) (i : ℕ) → AllByRecursion (λ y. eq x y ≡ false) ks → (d : Key) → i < length ks → is_key (get_or ks i d) x ≡ false
apart x [] i h d less = absurd (let f : i < 0 = less in omega (arith, f))
apart x (k ∷ ks) zero h d less = turned x k h.0
apart x (k ∷ ks) (suc i) h d less = apart x ks i h.1 d (omega (arith, less))

once : (ks : List Key) (i : ℕ) (d : Key) → IsDistinct eq ks → i < length ks → is_in (get_or ks i d) (take i ks) ≡ false
once [] i d h less = absurd (let f : i < 0 = less in omega (arith, f))
once (k ∷ ks) zero d h less = refl
once (k ∷ ks) (suc i) d h less = or_false _ _ (apart k ks i (IsDistinct-head eq k ks h) d (omega (arith, less))) (once ks i d (IsDistinct-tail eq k ks h) (omega (arith, less)))
  where
    or_false : (a b : Bool) → a ≡ false → b ≡ false → (a || b) ≡ false
    or_false true b e f = e
    or_false false b e f = f

more_case : (b c : Bool) (refs here old new n : ℕ) → (c ≡ true → b ≡ false) → (c ≡ true → refs ≡ here) → n ≡ cond c refs 0 → old ≡ cond b here 0 → new ≡ n + old → new ≡ cond (b || (c || false)) here 0
more_case true true refs here old new n once same en eo e = let f : true ≡ false = once refl in cc
more_case true false refs here old new n once same en eo e = omega (arith, en, eo, e)
more_case false true refs here old new n once same en eo e = let s : refs ≡ here = same refl in omega (arith, s, en, eo, e)
more_case false false refs here old new n once same en eo e = omega (arith, en, eo, e)

distinct : (m : ToldValue) (ks : List Key) → ks ≡ fin.keys m.told → IsDistinct eq ks
distinct m ks by_rank = subst (λ (E : Key → Key → Bool). IsDistinct E ks) (λ i x y. sym (rank_ties x y) i) (subst (IsDistinct is_key) (sym by_rank) (distinct_keys (fin.entries m.told) (fin.entries_sorted m.told)))

-- one object more
pub more_indexed : (m : ToldValue) (ks : List Key) (i : ℕ) (k d : Key) (old new : Bag) → ks ≡ fin.keys m.told → i < length ks → k ≡ get_or ks i d
    → ((p : Pair) → count new p ≡ times p (pairs_with k (refs_told m k)) + count old p) → AreIndexed m.told (take i ks) old → AreIndexed m.told (take (i + 1) ks) new
more_indexed m ks i k d old new by_rank within at added indexed of user =
    more_case (is_in user (take i ks)) (is_key user k) (times_key of (refs_told m k)) (times_key of (refs_told m user)) (count old (record { of = of; user = user })) (count new (record { of = of; user = user })) (times (record { of = of; user = user }) (pairs_with k (refs_told m k)))
    (λ t. ap (λ (j : Key). is_in j (take i ks)) (one_key user k t ∙ at) ∙ once ks i d (distinct m ks by_rank) within)
    (λ t. ap (λ (j : Key). times_key of (refs_told m j)) (sym (one_key user k t)))
    (listed_pairs of user k (refs_told m k))
    (indexed of user)
    (added (record { of = of; user = user }))
    ∙ ap (λ b. cond b (times_key of (refs_told m user)) 0) (sym (ap (λ (js : List Key). is_in user js) (take_more ks i d within ∙ ap (λ (j : Key). take i ks ++ j ∷ []) (sym at)) ∙ list_any-append (is_key user) (take i ks) (k ∷ [])))

there_case : (of : Key) (o : Option Told) (b : Bool) → b ≡ is_some o → cond b (times_key of (refs_at (option_map entry_told o))) 0 ≡ times_key of (refs_at (option_map entry_told o))
there_case of None true e = cc
there_case of None false e = refl
there_case of (Some told) true e = refl
there_case of (Some told) false e = cc

-- all objects
pub all_indexed : (m : ToldValue) (ks : List Key) (i : ℕ) (bag : Bag) → ks ≡ fin.keys m.told → length ks ≤ i → AreIndexed m.told (take i ks) bag → (p : Pair) → count bag p ≡ times_key p.of (refs_told m p.user)
all_indexed m ks i bag by_rank all indexed p =
    indexed p.of p.user
    ∙ there_case p.of (fin.get m.told p.user) (is_in p.user (take i ks)) (ap (λ (js : List Key). is_in p.user js) (take_all i ks all ∙ by_rank) ∙ sym (fin.contains_key-keys m.told p.user))

-- and so is the table of what is told
pub told_exact : (m : ToldValue) (next : ℕ) (number : Pair → ℕ) → ((p : Pair) → number p ≡ times_key p.of (refs_told m p.user)) → IsExact (table_told m.told next) number
told_exact m next number is of user = is (record { of = of; user = user }) ∙ ap (λ (o : Option Entry). times_key of (refs_at o)) (sym (table_told_at m.told next user))
