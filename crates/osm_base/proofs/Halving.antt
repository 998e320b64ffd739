-- Where a key stands among keys that rise, found by halving the part in which it can be.
use Rattle.std.proofs.Common.{◌≡◌, ℕ, zero, suc, ◌+◌, ◌-◌, ◌<◌, ◌≤◌, ◌&&◌, ◌||◌, Bool, true, false, cond, List, [], ◌∷◌, length, get_or, Some, refl, sym, ◌∙◌, ap, arith, subst, Ordering}
use Rattle.std.specs.declared.cmp.Ordering.TheVariants.{Less, Equal, Greater}
use Rattle.std.specs.Ordering.{is_lt, is_eq}
use Rattle.std.specs.Cmp.{both_ways}
use Rattle.std.specs.List.{slice_range}
use Rattle.std.specs.List.Sorted.{IsPartitionedBy, IsPartitionPoint}
use Rattle.std.specs.Prelude.{nat_lt, slice_get, T}
use Rattle.std.specs.FinMap.Entries.{below_all}
use Rattle.std.proofs.lemmas.Bool.{ltb-true, ltb-false, lt-ltb, and_parts}
use Rattle.std.proofs.lemmas.List.Edits.{length-between, get_or-between}
use Rattle.std.proofs.lemmas.Option.{slice_get-get_or}
use Rattle.osm_base.specs.declared.key.Key.{Key}
use Rattle.osm_base.specs.Rank.{rank_cmp, is_key}
use Rattle.osm_base.specs.RankLaws.{rank_total}
use Rattle.osm_base.specs.RisingKeys.{marked, rises, is_in, place_in}
use Rattle.osm_base.proofs.RisingKeys.{one_key, key_itself, put_there, in_with, turned}
use Rattle.osm_base.proofs.Tests.{first_T, second_T, less_from_T, less_from_test, by_bool, never}

-- a key comes before each of the others
abbrev pub IsBelow : Key → List Key → Type 0
IsBelow k ks = T (below_all rank_cmp k (marked ks))

pub below_at : (x : Key) (ks : List Key) (i : ℕ) (d : Key) → IsBelow x ks → i < length ks → rank_cmp x (get_or ks i d) ≡ Less
below_at x [] i d h l = absurd (omega (arith, l))
below_at x (y ∷ ks) zero d h l = less_from_T _ (first_T _ _ h)
below_at x (y ∷ ks) (suc i) d h l = below_at x ks i d (second_T _ _ h) (omega (arith, l))

one_more : (j n : ℕ) → nat_lt j n ≡ nat_lt (suc j) (1 + n)
one_more j n = both_ways _ _ (λ e. lt-ltb (suc j) (1 + n) (omega (arith, ltb-true j n e))) (λ e. lt-ltb j n (omega (arith, ltb-true (suc j) (1 + n) e)))

none_before : (i : ℕ) → nat_lt i 0 ≡ false
none_before i = by_bool (nat_lt i 0) (λ less. absurd (omega (arith, ltb-true i 0 less))) (λ more. more)

before_step : (k x : Key) (ks : List Key) (i : ℕ) (d : Key) (b : Bool) → is_lt (rank_cmp x k) ≡ b → IsBelow x ks → i < suc (length ks)
    → ((j : ℕ) → j < length ks → is_lt (rank_cmp (get_or ks j d) k) ≡ nat_lt j (place_in k ks)) → is_lt (rank_cmp (get_or (x ∷ ks) i d) k) ≡ nat_lt i (cond b (1 + place_in k ks) 0)
before_step k x ks zero d true e h l rest = e ∙ sym (lt-ltb 0 (1 + place_in k ks) (omega arith))
before_step k x ks (suc j) d true e h l rest = rest j (omega (arith, l)) ∙ one_more j (place_in k ks)
before_step k x ks zero d false e h l rest = e
before_step k x ks (suc j) d false e h l rest =
    by_bool (is_lt (rank_cmp (get_or ks j d) k))
    (λ less. never (is_lt (rank_cmp x k)) (ap is_lt (rank_total.trans x (get_or ks j d) k (below_at x ks j d h (omega (arith, l))) (less_from_test _ less))) e)
    (λ more. more ∙ sym (none_before (suc j)))

-- just the keys at the places before its own come before a key
pub before_place : (k : Key) (ks : List Key) (i : ℕ) (d : Key) → T (rises ks) → i < length ks → is_lt (rank_cmp (get_or ks i d) k) ≡ nat_lt i (place_in k ks)
before_place k [] i d h l = absurd (omega (arith, l))
before_place k (x ∷ ks) i d h l = before_step k x ks i d (is_lt (rank_cmp x k)) refl (first_T _ _ h) l (λ j m. before_place k ks j d (second_T _ _ h) m)

-- a key goes behind a place whose key comes before it, and no further than one whose key doesn't
pub goes_behind : (k : Key) (ks : List Key) (i : ℕ) (d : Key) → T (rises ks) → i < length ks → is_lt (rank_cmp (get_or ks i d) k) ≡ true → i ≤ place_in k ks
goes_behind k ks i d h l e = omega (arith, ltb-true i (place_in k ks) (sym (before_place k ks i d h l) ∙ e))

pub goes_no_further : (k : Key) (ks : List Key) (i : ℕ) (d : Key) → T (rises ks) → i < length ks → is_lt (rank_cmp (get_or ks i d) k) ≡ false → place_in k ks ≤ i
goes_no_further k ks i d h l e = ltb-false i (place_in k ks) (sym (before_place k ks i d h l) ∙ e)

-- The same of a part.

part_before : (k : Key) (ks : List Key) (s e i : ℕ) (d : Key) → T (rises ks) → e ≤ length ks → s + i < e → is_lt (rank_cmp (get_or (slice_range ks s e) i d) k) ≡ nat_lt (s + i) (place_in k ks)
part_before k ks s e i d h within l = ap (λ (j : Key). is_lt (rank_cmp j k)) (get_or-between ks s e i d l) ∙ before_place k ks (s + i) d h (omega (arith, within, l))

pub part_parted : (k : Key) (ks : List Key) (s e : ℕ) → T (rises ks) → e ≤ length ks → IsPartitionedBy (λ j. is_lt (rank_cmp j k)) (slice_range ks s e)
part_parted k ks s e h within i j d le l passed =
    let m : j < e - s = omega (arith, l, length-between ks s e within) in
    let far : s + j < place_in k ks = ltb-true (s + j) (place_in k ks) (sym (part_before k ks s e j d h within (omega (arith, m))) ∙ passed) in
    part_before k ks s e i d h within (omega (arith, m, le)) ∙ lt-ltb (s + i) (place_in k ks) (omega (arith, far, le))

before_point : (k : Key) (ks : List Key) (s e at : ℕ) → T (rises ks) → s ≤ place_in k ks → e ≤ length ks → s ≤ e → at ≤ e - s
    → IsPartitionPoint (λ j. is_lt (rank_cmp j k) ≡ true) (λ j. is_lt (rank_cmp j k) ≡ false) (slice_range ks s e) at → s + at ≤ place_in k ks
before_point k ks s e zero h from within order room point = omega (arith, from)
before_point k ks s e (suc i) h from within order room point =
    let last : s + i < place_in k ks = ltb-true (s + i) (place_in k ks) (sym (part_before k ks s e i k h within (omega (arith, order, room))) ∙ point.0 i k (omega arith) (omega arith)) in
    omega (arith, last)

behind_point : (k : Key) (ks : List Key) (s e at : ℕ) → T (rises ks) → place_in k ks ≤ e → e ≤ length ks → s ≤ e → at ≤ e - s
    → IsPartitionPoint (λ j. is_lt (rank_cmp j k) ≡ true) (λ j. is_lt (rank_cmp j k) ≡ false) (slice_range ks s e) at → place_in k ks ≤ s + at
behind_point k ks s e at h upto within order room point =
    by_bool (nat_lt at (e - s))
    (λ less. let l : at < e - s = ltb-true at (e - s) less in
    let long : at < length (slice_range ks s e) = omega (arith, l, length-between ks s e within) in
    ltb-false (s + at) (place_in k ks) (sym (part_before k ks s e at k h within (omega (arith, l, order))) ∙ point.1 at k (omega arith) long))
    (λ more. omega (arith, ltb-false at (e - s) more, upto, order))

-- the place that halving a part finds
pub part_place : (k : Key) (ks : List Key) (s e at : ℕ) → T (rises ks) → s ≤ place_in k ks → place_in k ks ≤ e → e ≤ length ks → at ≤ length (slice_range ks s e)
    → IsPartitionPoint (λ j. is_lt (rank_cmp j k) ≡ true) (λ j. is_lt (rank_cmp j k) ≡ false) (slice_range ks s e) at → s + at ≡ place_in k ks
part_place k ks s e at h from upto within bound point =
    let order : s ≤ e = omega (arith, from, upto) in
    let room : at ≤ e - s = omega (arith, bound, length-between ks s e within) in
    omega (arith, before_point k ks s e at h from within order room point, behind_point k ks s e at h upto within order room point)

-- A key stands at its place, or nowhere.

abbrev Stands : Key → List Key → ℕ → Bool
Stands k ks at = nat_lt at (length ks) && is_key k (get_or ks at k)

pub stands_there : (k : Key) (ks : List Key) (at : ℕ) → Stands k ks at ≡ true → slice_get ks at ≡ Some k
stands_there k ks at test =
    let p = and_parts (nat_lt at (length ks)) _ test in
    slice_get-get_or ks at k (ltb-true _ _ p.0) ∙ ap Some (sym (one_key k (get_or ks at k) p.1))

abbrev IsNew : Key → List Key → Type 0
IsNew k ks = place_in k ks < length ks → is_key k (get_or ks (place_in k ks) k) ≡ false

-- what is below a key is below all that the key is below
pub below_less : (j k : Key) (ks : List Key) → rank_cmp k j ≡ Less → IsBelow j ks → IsBelow k ks
below_less j k [] e h = tt
below_less j k (x ∷ ks) e h =
    let p : rank_cmp k x ≡ Less = rank_total.trans k j x e (less_from_T _ (first_T _ _ h)) in
    rw p (below_less j k ks e (second_T _ _ h))

below_apart : (k : Key) (ks : List Key) → IsBelow k ks → is_in k ks ≡ false
below_apart k [] h = refl
below_apart k (x ∷ ks) h =
    let apart : is_key k x ≡ false = ap is_eq (less_from_T _ (first_T _ _ h)) in
    rw apart (below_apart k ks (second_T _ _ h))

apart_step : (k x : Key) (ks : List Key) (o : Ordering) → rank_cmp k x ≡ o → IsBelow x ks → IsNew k (x ∷ ks) → (IsNew k ks → is_in k ks ≡ false) → is_in k (x ∷ ks) ≡ false
apart_step k x ks Less e h new rest =
    let apart : is_key k x ≡ false = ap is_eq e in
    rw apart (below_apart k ks (below_less x k ks e h))
apart_step k x ks Equal e h new rest =
    let f : is_lt (rank_cmp x k) ≡ false = turned k x Equal e in
    let g = rw f at new in
    let tie : is_key k x ≡ true = ap is_eq e in
    let apart : is_key k x ≡ false = g (omega arith) in
    cc
apart_step k x ks Greater e h new rest =
    let f : is_lt (rank_cmp x k) ≡ true = turned k x Greater e in
    let one : 1 + place_in k ks ≡ suc (place_in k ks) = omega arith in
    let g = rw (f, one) at new in
    let apart : is_key k x ≡ false = ap is_eq e in
    rw apart (rest (λ l. g (omega arith)))

new_apart : (k : Key) (ks : List Key) → T (rises ks) → IsNew k ks → is_in k ks ≡ false
new_apart k [] h new = refl
new_apart k (x ∷ ks) h new = apart_step k x ks (rank_cmp k x) refl (first_T _ _ h) new (new_apart k ks (second_T _ _ h))

pub stands_nowhere : (k : Key) (ks : List Key) (at : ℕ) → T (rises ks) → at ≡ place_in k ks → Stands k ks at ≡ false → is_in k ks ≡ false
stands_nowhere k ks at h e test =
    let P : ℕ → Type 0 = λ n. Stands k ks n ≡ false in
    let q = subst P e test in
    new_apart k ks h (λ l. ap (λ b. b && is_key k (get_or ks (place_in k ks) k)) (sym (lt-ltb _ _ l)) ∙ q)

pub in_there : (k : Key) (ks : List Key) (at : ℕ) → at ≡ place_in k ks → Stands k ks at ≡ true → is_in k ks ≡ true
in_there k ks at e test = ap (is_in k) (put_there k ks at e test) ∙ in_with k k ks ∙ ap (λ b. b || is_in k ks) (key_itself k)

stands_case : (k : Key) (ks : List Key) (at : ℕ) (b : Bool) → T (rises ks) → at ≡ place_in k ks → Stands k ks at ≡ b → b ≡ is_in k ks
stands_case k ks at true h e test = sym (in_there k ks at e test)
stands_case k ks at false h e test = sym (stands_nowhere k ks at h e test)

-- a key is one of keys that rise where it stands at its place
pub stands_is : (k : Key) (ks : List Key) (at : ℕ) → T (rises ks) → at ≡ place_in k ks → Stands k ks at ≡ is_in k ks
stands_is k ks at h e = stands_case k ks at (Stands k ks at) h e refl
