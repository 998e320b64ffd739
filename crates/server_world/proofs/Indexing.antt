-- The index of a world's objects: what it lends, and that it stays exact.
use Rattle.std.proofs.Common.{◌≡◌, ℕ, ◌+◌, ◌≤◌, ◌&&◌, Bool, true, false, cond, Option, Some, None, List, [], ◌∷◌, map, refl, sym, ◌∙◌, ap, arith, inl, inr}
use Rattle.std.specs.Option.{option_map, option_map_or, unwrap_or}
use Rattle.std.specs.Prelude.{T, nat_lt, is_some, slice_get}
use Rattle.std.specs.List.{find, filter}
use Rattle.std.proofs.lemmas.Bool.{cases_Bool}
use Rattle.std.specs.FinMap as fin
use Rattle.osm_base.specs.Rank.{rank_cmp, is_key}
use Rattle.osm_base.specs.Content.{refs_of, refers}
use Rattle.osm_base.specs.RisingKeys.{rises, is_in}
use Rattle.osm_base.specs.declared.key.Key.{Key}
use Rattle.osm_base.specs.declared.content.Content.{Content}
use Rattle.osm_base.proofs.ByRank.{sorted_filter}
use Rattle.osm_base.proofs.RisingKeys.{one_key}
use Rattle.ref_index.specs.declared.pair.Pair.{Pair}
use Rattle.ref_index.specs.Bag.{Bag, count, times, pair_cmp}
use Rattle.dataset.specs.Exact.{times_key}
use Rattle.dataset.proofs.Listed.{any_count}
use Rattle.dataset.proofs.Exactness.{listed_pairs}
use Rattle.upload_order.specs.First.{first}
use Rattle.upload_order.specs.World.{WorldEntry}
use Rattle.upload_order.specs.Pieces.{entry_refers, user_among}
use Rattle.upload_order.proofs.Basics.{at_key_put, at_other}
use Rattle.upload_order.proofs.Entries.{IsIn, has_listed}
use Rattle.server_world.specs.Codes.{Objects}
use Rattle.server_world.specs.Indexed.{refs_in, pairs_of, IsIndexed}

-- what stands refers to the key
abbrev pub object_refers : Key → Option WorldEntry → Bool
object_refers k o = option_map_or (λ e. entry_refers k e) o false

content_counts : (k : Key) (c : Option Content) → option_map_or (λ c. refers c k) c false ≡ nat_lt 0 (times_key k (option_map_or refs_of c []))
content_counts k None = refl
content_counts k (Some c) = any_count k (refs_of c)

pub object_counts : (k : Key) (o : Option WorldEntry) → object_refers k o ≡ nat_lt 0 (times_key k (refs_in o))
object_counts k None = refl
object_counts k (Some e) = content_counts k e.content

stands_too : (k : Key) (o : Option WorldEntry) → object_refers k o ≡ (object_refers k o && is_some o)
stands_too k None = refl
stands_too k (Some e) = elim (entry_refers k e) as (λ b. b ≡ (b && true)) [ true ↦ refl | false ↦ refl ]

first_got : (ks : List Key) → slice_get ks 0 ≡ first ks
first_got [] = refl
first_got (k ∷ ks) = refl

first_case : (b : Bool) (k : Key) (e : Key × WorldEntry) (ks : List Key) (o : Option (Key × WorldEntry)) → e.0 ≡ k → option_map (λ e. e.0) o ≡ first ks → option_map (λ e. e.0) (cond b (Some e) o) ≡ first (cond b (k ∷ ks) ks)
first_case true k e ks o s h = ap Some s
first_case false k e ks o s h = h

-- the first entry that passes a test is under the first key that does
first_found : (test : WorldEntry → Bool) (p : Key → Bool) (es : List (Key × WorldEntry)) → ((e : Key × WorldEntry) → IsIn e es → test e.1 ≡ p e.0) → option_map (λ e. e.0) (find (λ e. test e.1) es) ≡ first (filter p (map (λ e. e.0) es))
first_found test p [] h = refl
first_found test p (e ∷ es) h =
    ap (λ b. option_map (λ (x : Key × WorldEntry). x.0) (cond b (Some e) (find (λ x. test x.1) es))) (h e (inl refl))
    ∙ first_case (p e.0) e.0 e (filter p (map (λ e. e.0) es)) (find (λ x. test x.1) es) refl (first_found test p es (λ x i. h x (inr i)))

-- the first of the users that an exact index lends is the least object that refers to the key
pub lent_first : (m : Objects) (bag : Bag) (k : Key) (ks : List Key) → IsIndexed m bag → T (rises ks) → ((u : Key) → is_in u ks ≡ nat_lt 0 (count bag (record { of = k; user = u }))) → slice_get ks 0 ≡ user_among (fin.entries m) k
lent_first m bag k ks exact h members =
    let p : Key → Bool = λ q. object_refers k (fin.get m q) in
    let those : ks ≡ filter p (fin.keys m) =
    sorted_filter p m ks h (λ q. members q ∙ ap (nat_lt 0) (exact k q) ∙ sym (object_counts k (fin.get m q)) ∙ stands_too k (fin.get m q) ∙ ap (λ b. p q && b) (fin.contains_key-keys m q)) in
    first_got ks ∙ ap first those
    ∙ sym (first_found (λ e. entry_refers k e) p (fin.entries m) (λ e i. sym (ap (object_refers k) (has_listed m e i))))

-- how often a pair is among those of an object
times_of : (p : Pair) (k : Key) (o : Option WorldEntry) (b : Bool) → is_key p.user k ≡ b → times p (pairs_of k o) ≡ cond b (times_key p.of (refs_in o)) 0
times_of p k o b e = listed_pairs p.of p.user k (refs_in o) ∙ ap (λ c. cond c (times_key p.of (refs_in o)) 0) e

-- the pairs of what stands are in an exact index
pub gone_there : (m : Objects) (bag : Bag) (k : Key) (o : Option WorldEntry) → IsIndexed m bag → o ≡ fin.get m k → (p : Pair) → times p (pairs_of k o) ≤ count bag p
gone_there m bag k o exact is p =
    let there : count bag p ≡ times_key p.of (refs_in (fin.get m p.user)) = exact p.of p.user in
    elim (cases_Bool (is_key p.user k)) [
      | inl t ↦ (
          let g : times p (pairs_of k o) ≡ times_key p.of (refs_in o) = times_of p k o true t in
          let n : count bag p ≡ times_key p.of (refs_in o) = there ∙ ap (λ (q : Key). times_key p.of (refs_in (fin.get m q))) (one_key p.user k t) ∙ ap (λ (x : Option WorldEntry). times_key p.of (refs_in x)) (sym is) in
          omega (arith, g, n))
      | inr f ↦ (let g : times p (pairs_of k o) ≡ 0 = times_of p k o false f in omega (arith, g))
    ]

-- and in the index where others were added
pub still_there : (m : Objects) (old mid : Bag) (k : Key) (o : Option WorldEntry) (come : List Pair) → IsIndexed m old → o ≡ fin.get m k → ((p : Pair) → count mid p ≡ times p come + count old p) → (p : Pair) → times p (pairs_of k o) ≤ count mid p
still_there m old mid k o come exact is added p =
    let there = gone_there m old k o exact is p in
    let more = added p in
    omega (arith, there, more)

-- the index is exact after an object was set, whose pairs were added before those of what stood were taken
pub put_exact : (m : Objects) (old mid new : Bag) (k : Key) (o : Option WorldEntry) (e : WorldEntry) → IsIndexed m old → o ≡ fin.get m k
    → ((p : Pair) → count mid p ≡ times p (pairs_of k (Some e)) + count old p) → ((p : Pair) → times p (pairs_of k o) + count new p ≡ count mid p) → IsIndexed (fin.insert m k e) new
put_exact m old mid new k o e exact is added taken of user =
    let p : Pair = record { of = of; user = user } in
    let more = added p in
    let less = taken p in
    let there : count old p ≡ times_key of (refs_in (fin.get m user)) = exact of user in
    elim (cases_Bool (is_key user k)) [
      | inl t ↦ (
          let g : times p (pairs_of k o) ≡ times_key of (refs_in o) = times_of p k o true t in
          let c : times p (pairs_of k (Some e)) ≡ times_key of (refs_in (Some e)) = times_of p k (Some e) true t in
          let n : count old p ≡ times_key of (refs_in o) = there ∙ ap (λ (q : Key). times_key of (refs_in (fin.get m q))) (one_key user k t) ∙ ap (λ (x : Option WorldEntry). times_key of (refs_in x)) (sym is) in
          let now : count new p ≡ times_key of (refs_in (Some e)) = omega (arith, g, c, n, more, less) in
          now ∙ ap (λ (x : Option WorldEntry). times_key of (refs_in x)) (sym (at_key_put m k user e t)))
      | inr f ↦ (
          let g : times p (pairs_of k o) ≡ 0 = times_of p k o false f in
          let c : times p (pairs_of k (Some e)) ≡ 0 = times_of p k (Some e) false f in
          let now : count new p ≡ count old p = omega (arith, g, c, more, less) in
          now ∙ there ∙ ap (λ (x : Option WorldEntry). times_key of (refs_in x)) (sym (at_other m k user e f)))
    ]

-- the same pairs, counted alike, keep an index exact
pub same_indexed : (m : Objects) (old new : Bag) → IsIndexed m old → ((p : Pair) → count new p ≡ count old p) → IsIndexed m new
same_indexed m old new exact same of user = same (record { of = of; user = user }) ∙ exact of user

no_count : (of : Key) (o : Option ℕ) (x : Option WorldEntry) → o ≡ None → x ≡ None → unwrap_or o 0 ≡ times_key of (refs_in x)
no_count of o x e f = rw (e, f) refl

-- an empty index is exact for no objects
pub empty_indexed : (m : Objects) (bag : Bag) → m ≡ fin.empty → bag ≡ fin.empty → IsIndexed m bag
empty_indexed m bag none empty of user =
    no_count of (fin.get bag (record { of = of; user = user })) (fin.get m user)
    (ap (λ (b : Bag). fin.get b (record { of = of; user = user })) empty ∙ fin.get-empty pair_cmp (record { of = of; user = user }))
    (ap (λ (x : Objects). fin.get x user) none ∙ fin.get-empty rank_cmp user)
