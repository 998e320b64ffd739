-- Lists of keys that rise by rank: with one key more, with some left out, and that only one has its keys.
use Rattle.std.proofs.Common.{◌≡◌, ℕ, suc, ◌+◌, ◌<◌, ◌≤◌, ◌&&◌, ◌||◌, Bool, true, false, not, cond, is_some, Option, Some, None, List, [], ◌∷◌, length, get_or, refl, sym, ◌∙◌, ap, arith, subst, Ordering}
use Rattle.std.specs.declared.cmp.Ordering.TheVariants.{Less, Equal, Greater}
use Rattle.std.specs.Ordering.{is_lt, is_eq, ordering_reverse}
use Rattle.std.specs.List.{insert, filter}
use Rattle.std.specs.Map.{keys_of}
use Rattle.std.specs.Prelude.{nat_lt, T}
use Rattle.std.specs.Cmp.{eq_by_cmp_equiv, Equal-is}
use Rattle.std.specs.FinMap.Entries.{put, find, where_key, is_sorted, is_sorted-put, is_sorted-where_key, find-put, by_order, same_entries}
use Rattle.std.proofs.lemmas.Bool.{lt-ltb, ltb-true, and_parts}
use Rattle.std.proofs.lemmas.List.Sums.{prefix_len-le-length}
use Rattle.std.proofs.lemmas.Cmp.{tied_itself}
use Rattle.std.proofs.lemmas.Map.Views.{any-filter_same}
use Rattle.osm_base.specs.declared.key.Key.{Key}
use Rattle.osm_base.specs.Rank.{rank_cmp, is_key}
use Rattle.osm_base.specs.RankLaws.{rank_total, rank_exact}
use Rattle.osm_base.specs.RisingKeys.{marked, rises, is_in, with_key, without_key, place_in}

-- keys that the test finds to be one are one
pub one_key : (j k : Key) → is_key j k ≡ true → j ≡ k
one_key j k e = rank_exact j k ((Equal-is (rank_cmp j k)).0 e)

-- a key is itself
pub key_itself : (k : Key) → is_key k k ≡ true
key_itself k = ap is_eq (tied_itself rank_total k)

-- the test of two keys answers alike either way round
pub key_turned : (j k : Key) → is_key j k ≡ is_key k j
key_turned j k = (eq_by_cmp_equiv rank_total).symm j k

-- a key's place is among the keys or at their end
pub place_le : (k : Key) (ks : List Key) → place_in k ks ≤ length ks
place_le k ks = prefix_len-le-length _ ks

-- how the order of k and j shows from the other side
pub turned : (k j : Key) (o : Ordering) → rank_cmp k j ≡ o → is_lt (rank_cmp j k) ≡ is_lt (ordering_reverse o)
turned k j o e = ap is_lt (rank_total.antisymm j k ∙ ap ordering_reverse e)

abbrev IsNew : Key → List Key → Type 0
IsNew k ks = place_in k ks < length ks → is_key k (get_or ks (place_in k ks) k) ≡ false

new_step : (k j : Key) (ks : List Key) (o : Ordering) → rank_cmp k j ≡ o → IsNew k (j ∷ ks)
    → (IsNew k ks → insert ks (place_in k ks) k ≡ with_key k ks)
    → insert (j ∷ ks) (place_in k (j ∷ ks)) k ≡ by_order o (k ∷ j ∷ ks) (j ∷ ks) (j ∷ with_key k ks)
new_step k j ks Less e h rest =
    let f : is_lt (rank_cmp j k) ≡ false = turned k j Less e in
    rw f refl
new_step k j ks Equal e h rest =
    let f : is_lt (rank_cmp j k) ≡ false = turned k j Equal e in
    let g = rw f at h in
    let tie : is_key k j ≡ true = ap is_eq e in
    let no : is_key k j ≡ false = g (omega arith) in
    cc
new_step k j ks Greater e h rest =
    let f : is_lt (rank_cmp j k) ≡ true = turned k j Greater e in
    let one : 1 + place_in k ks ≡ suc (place_in k ks) = omega arith in
    let g = rw (f, one) at h in
    rw (f, one) (ap (λ (xs : List Key). j ∷ xs) (rest (λ l. g (omega arith))))

new_key : (k : Key) (ks : List Key) → IsNew k ks → insert ks (place_in k ks) k ≡ with_key k ks
new_key k [] h = refl
new_key k (j ∷ ks) h = new_step k j ks (rank_cmp k j) refl h (new_key k ks)

abbrev IsThere : Key → List Key → Type 0
IsThere k ks = (place_in k ks < length ks) × (is_key k (get_or ks (place_in k ks) k) ≡ true)

there_step : (k j : Key) (ks : List Key) (o : Ordering) → rank_cmp k j ≡ o → IsThere k (j ∷ ks)
    → (IsThere k ks → ks ≡ with_key k ks)
    → j ∷ ks ≡ by_order o (k ∷ j ∷ ks) (j ∷ ks) (j ∷ with_key k ks)
there_step k j ks Less e h rest =
    let f : is_lt (rank_cmp j k) ≡ false = turned k j Less e in
    let there = rw f at h.1 in
    let no : is_key k j ≡ false = ap is_eq e in
    cc
there_step k j ks Equal e h rest = refl
there_step k j ks Greater e h rest =
    let f : is_lt (rank_cmp j k) ≡ true = turned k j Greater e in
    let one : 1 + place_in k ks ≡ suc (place_in k ks) = omega arith in
    let below : 1 + place_in k ks < suc (length ks) = rw f at h.0 in
    let tie = rw (f, one) at h.1 in
    ap (λ (xs : List Key). j ∷ xs) (rest (omega arith, tie))

there_key : (k : Key) (ks : List Key) → IsThere k ks → ks ≡ with_key k ks
there_key k [] h = absurd (omega (arith, h.0))
there_key k (j ∷ ks) h = there_step k j ks (rank_cmp k j) refl h (there_key k ks)

-- a key that stands at its place is there already
pub put_there : (k : Key) (ks : List Key) (at : ℕ) → at ≡ place_in k ks → (nat_lt at (length ks) && is_key k (get_or ks at k)) ≡ true → ks ≡ with_key k ks
put_there k ks at e h =
    let P : ℕ → Type 0 = λ n. (nat_lt n (length ks) && is_key k (get_or ks n k)) ≡ true in
    let p = and_parts (nat_lt (place_in k ks) (length ks)) _ (subst P e h) in
    there_key k ks (ltb-true _ _ p.0, p.1)

-- one that doesn't goes in at its place
pub put_new : (k : Key) (ks : List Key) (at : ℕ) → at ≡ place_in k ks → (nat_lt at (length ks) && is_key k (get_or ks at k)) ≡ false → insert ks at k ≡ with_key k ks
put_new k ks at e h =
    let P : ℕ → Type 0 = λ n. (nat_lt n (length ks) && is_key k (get_or ks n k)) ≡ false in
    let q = subst P e h in
    ap (λ n. insert ks n k) e ∙ new_key k ks (λ l. ap (λ b. b && is_key k (get_or ks (place_in k ks) k)) (sym (lt-ltb _ _ l)) ∙ q)

-- the same as entries
marked_order : (k j : Key) (ks : List Key) (o : Ordering) → marked (with_key k ks) ≡ put rank_cmp k 0 (marked ks) → marked (by_order o (k ∷ j ∷ ks) (j ∷ ks) (j ∷ with_key k ks)) ≡ by_order o ((k, 0) ∷ marked (j ∷ ks)) ((j, 0) ∷ marked ks) ((j, 0) ∷ put rank_cmp k 0 (marked ks))
marked_order k j ks Less h = refl
marked_order k j ks Equal h = refl
marked_order k j ks Greater h = ap (λ (es : List (Key × ℕ)). (j, 0) ∷ es) h

marked_with : (k : Key) (ks : List Key) → marked (with_key k ks) ≡ put rank_cmp k 0 (marked ks)
marked_with k [] = refl
marked_with k (j ∷ ks) = marked_order k j ks (rank_cmp k j) (marked_with k ks)

marked_test : (b : Bool) (j : Key) (ks : List Key) (es : List (Key × ℕ)) → marked ks ≡ es → marked (cond b (j ∷ ks) ks) ≡ cond b ((j, 0) ∷ es) es
marked_test true j ks es h = ap (λ (fs : List (Key × ℕ)). (j, 0) ∷ fs) h
marked_test false j ks es h = h

marked_filter : (p : Key → Bool) (ks : List Key) → marked (filter p ks) ≡ where_key rank_cmp p (marked ks)
marked_filter p [] = refl
marked_filter p (j ∷ ks) = marked_test (p j) j _ _ (marked_filter p ks)

keys_of_marked : (ks : List Key) → keys_of (marked ks) ≡ ks
keys_of_marked [] = refl
keys_of_marked (k ∷ ks) = ap (λ (js : List Key). k ∷ js) (keys_of_marked ks)

found : (b c : Bool) (o : Option ℕ) → o ≡ cond c (Some 0) None → cond b (Some 0) o ≡ cond (b || c) (Some 0) None
found true c o e = refl
found false c o e = e

find_marked : (q : Key) (ks : List Key) → find rank_cmp q (marked ks) ≡ cond (is_in q ks) (Some 0) None
find_marked q [] = refl
find_marked q (k ∷ ks) = found (is_key q k) (is_in q ks) _ (find_marked q ks)

is_found : (b : Bool) → is_some {T = ℕ} (cond b (Some 0) None) ≡ b
is_found true = refl
is_found false = refl

-- a key is among others where a look-up in their entries finds it
in_marked : (q : Key) (ks : List Key) → is_in q ks ≡ is_some (find rank_cmp q (marked ks))
in_marked q ks = sym (ap is_some (find_marked q ks) ∙ is_found (is_in q ks))

-- with one key more
pub rises_with : (k : Key) (ks : List Key) → T (rises ks) → T (rises (with_key k ks))
rises_with k ks h = subst (λ (es : List (Key × ℕ)). T (is_sorted rank_cmp es)) (sym (marked_with k ks)) (is_sorted-put rank_cmp rank_total k 0 (marked ks) h)

some_case : (b : Bool) (o : Option ℕ) → is_some (cond b (Some 0) o) ≡ (b || is_some o)
some_case true o = refl
some_case false o = refl

pub in_with : (q k : Key) (ks : List Key) → is_in q (with_key k ks) ≡ (is_key q k || is_in q ks)
in_with q k ks =
    in_marked q (with_key k ks) ∙ ap (λ (es : List (Key × ℕ)). is_some (find rank_cmp q es)) (marked_with k ks)
    ∙ ap is_some (find-put rank_cmp rank_total q k 0 (marked ks)) ∙ some_case (is_key q k) _ ∙ ap (λ b. is_key q k || b) (sym (in_marked q ks))

-- those that pass a test
pub rises_filter : (p : Key → Bool) (ks : List Key) → T (rises ks) → T (rises (filter p ks))
rises_filter p ks h = subst (λ (es : List (Key × ℕ)). T (is_sorted rank_cmp es)) (sym (marked_filter p ks)) (is_sorted-where_key rank_cmp p (marked ks) h)

pub in_filter : (p : Key → Bool) (q : Key) (ks : List Key) → is_in q (filter p ks) ≡ (p q && is_in q ks)
in_filter p q ks = any-filter_same (is_key q) p (p q) (λ k e. ap p (sym (one_key q k e))) ks

-- without one key
pub rises_without : (k : Key) (ks : List Key) → T (rises ks) → T (rises (without_key k ks))
rises_without k ks h = rises_filter (λ j. not (is_key k j)) ks h

pub in_without : (q k : Key) (ks : List Key) → is_in q (without_key k ks) ≡ (not (is_key q k) && is_in q ks)
in_without q k ks = in_filter (λ j. not (is_key k j)) q ks ∙ ap (λ b. not b && is_in q ks) (key_turned k q)

-- rising lists of the same keys are one
pub same_keys : (js ks : List Key) → T (rises js) → T (rises ks) → ((q : Key) → is_in q js ≡ is_in q ks) → js ≡ ks
same_keys js ks h g e =
    sym (keys_of_marked js)
    ∙ ap keys_of (same_entries rank_cmp rank_total rank_exact (marked js) (marked ks) h g (λ q. find_marked q js ∙ ap (λ b. cond b (Some 0) None) (e q) ∙ sym (find_marked q ks)))
    ∙ keys_of_marked ks
