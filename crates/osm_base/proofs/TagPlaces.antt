-- The place of a key in tags, and what a write, an insertion or a removal there leaves.
use Rattle.std.proofs.Common.{◌≡◌, ℕ, zero, suc, ◌+◌, ◌<◌, ◌≤◌, ◌&&◌, Bool, true, false, not, cond, List, [], ◌∷◌, length, get_or, set, Some, None, is_some, refl, sym, ◌∙◌, ap, arith, subst, Ordering}
use Rattle.std.specs.declared.cmp.Ordering.TheVariants.{Less, Equal, Greater}
use Rattle.std.specs.Ordering.{eq_by_cmp, is_lt, is_eq, ordering_reverse}
use Rattle.std.specs.List.{insert, remove, prefix_len}
use Rattle.std.specs.List.Sorted.{IsPartitionedBy, IsPartitionPoint}
use Rattle.std.specs.Prelude.{nat_lt, T}
use Rattle.std.specs.FinMap.{is_sorted}
use Rattle.std.specs.FinMap.Entries.{by_order, below_all}
use Rattle.std.proofs.lemmas.Bool.{lt-ltb, ltb-true, and_parts}
use Rattle.std.proofs.lemmas.Cmp.{nat_list_cmp_total}
use Rattle.std.proofs.lemmas.List.Sums.{prefix_len-le-length, prefix_len_passes, prefix_len_stops}
use Rattle.osm_base.specs.Tags.{Pair, bytes_cmp, value_of, with_tag, without_tag, has_tag, place_of}
use Rattle.osm_base.proofs.TagLaws.{one_key, has_tag_is}
use Rattle.osm_base.proofs.Tests.{first_T, second_T, less_from_T}

pub place_le : (key : List ℕ) (tags : List Pair) → place_of key tags ≤ length tags
place_le key tags = prefix_len-le-length _ tags

-- Where a test passes up to a place and fails from there, the place ends the longest front that passes.
pub partition_end : {X : Type 0} (p : X → Bool) (xs : List X) (d : X) (i : ℕ) → i ≤ length xs
    → IsPartitionPoint (λ y. p y ≡ true) (λ y. p y ≡ false) xs i → i ≡ prefix_len p xs
partition_end p xs d i le h =
    let past : prefix_len p xs < i → ⊥ = λ l.
    let yes = h.0 (prefix_len p xs) d (omega arith) l in
    let stop = prefix_len_stops p xs d (omega arith) in
    cc in
    let short : i < prefix_len p xs → ⊥ = λ l.
    let yes = prefix_len_passes p xs i d l in
    let stop = h.1 i d (omega arith) (omega (arith, prefix_len-le-length p xs)) in
    cc in
    omega (arith, past, short)

below_at : (k : List ℕ) (tags : List Pair) (j : ℕ) (d : Pair) → T (below_all bytes_cmp k tags) → j < length tags → bytes_cmp k (get_or tags j d).0 ≡ Less
below_at k [] j d h l = absurd (omega (arith, l))
below_at k (t ∷ tags) zero d h l = less_from_T (bytes_cmp k t.0) (first_T (is_lt (bytes_cmp k t.0)) _ h)
below_at k (t ∷ tags) (suc j) d h l = below_at k tags j d (second_T (is_lt (bytes_cmp k t.0)) _ h) (omega (arith, l))

below_too : (k j key : List ℕ) → bytes_cmp k j ≡ Less → is_lt (bytes_cmp j key) ≡ true → is_lt (bytes_cmp k key) ≡ true
below_too k j key e h = ap is_lt (nat_list_cmp_total.trans k j key e (less_from_T (bytes_cmp j key) (subst T (sym h) tt)))

-- In order, the tags with lesser keys stand in front.
pub partitioned : (key : List ℕ) (tags : List Pair) → T (is_sorted bytes_cmp tags) → IsPartitionedBy (λ (t : Pair). is_lt (bytes_cmp t.0 key)) tags
partitioned key [] s i j d le l e = absurd (omega (arith, l))
partitioned key (t ∷ tags) s zero zero d le l e = e
partitioned key (t ∷ tags) s zero (suc j) d le l e =
    below_too t.0 (get_or tags j d).0 key (below_at t.0 tags j d (first_T (below_all bytes_cmp t.0 tags) _ s) (omega (arith, l))) e
partitioned key (t ∷ tags) s (suc i) zero d le l e = absurd (omega (arith, le))
partitioned key (t ∷ tags) s (suc i) (suc j) d le l e =
    partitioned key tags (second_T (below_all bytes_cmp t.0 tags) _ s) i j d (omega (arith, le)) (omega (arith, l)) e

-- how the order of k and j shows from the other side
turned : (k j : List ℕ) (o : Ordering) → bytes_cmp k j ≡ o → is_lt (bytes_cmp j k) ≡ is_lt (ordering_reverse o)
turned k j o e = ap is_lt (nat_list_cmp_total.antisymm j k ∙ ap ordering_reverse e)

-- the tag at a key's place has that key
abbrev pub IsThere : List ℕ → List Pair → Type 0
IsThere key tags = (place_of key tags < length tags) × (eq_by_cmp bytes_cmp key (get_or tags (place_of key tags) ([], [])).0 ≡ true)

-- no tag at a key's place has that key
abbrev pub IsNew : List ℕ → List Pair → Type 0
IsNew key tags = place_of key tags < length tags → eq_by_cmp bytes_cmp key (get_or tags (place_of key tags) ([], [])).0 ≡ false

there_less : (key : List ℕ) (t : Pair) (tags : List Pair) → bytes_cmp key t.0 ≡ Less → IsThere key (t ∷ tags) → ⊥
there_less key t tags e h =
    let f : is_lt (bytes_cmp t.0 key) ≡ false = turned key t.0 Less e in
    let there = rw f at h.1 in
    let untied : eq_by_cmp bytes_cmp key t.0 ≡ false = ap is_eq e in
    cc

new_equal : (key : List ℕ) (t : Pair) (tags : List Pair) → bytes_cmp key t.0 ≡ Equal → IsNew key (t ∷ tags) → ⊥
new_equal key t tags e h =
    let f : is_lt (bytes_cmp t.0 key) ≡ false = turned key t.0 Equal e in
    let g = rw f at h in
    let tie : eq_by_cmp bytes_cmp key t.0 ≡ true = ap is_eq e in
    let untied : eq_by_cmp bytes_cmp key t.0 ≡ false = g (omega arith) in
    cc

-- the place in the rest
place_later : (key : List ℕ) (t : Pair) (tags : List Pair) → bytes_cmp key t.0 ≡ Greater → place_of key (t ∷ tags) ≡ suc (place_of key tags)
place_later key t tags e =
    let f : is_lt (bytes_cmp t.0 key) ≡ true = turned key t.0 Greater e in
    let one : 1 + place_of key tags ≡ suc (place_of key tags) = omega arith in
    rw (f, one) refl

place_first : (key : List ℕ) (t : Pair) (tags : List Pair) (o : Ordering) → bytes_cmp key t.0 ≡ o → is_lt (ordering_reverse o) ≡ false → place_of key (t ∷ tags) ≡ 0
place_first key t tags o e h =
    let f : is_lt (bytes_cmp t.0 key) ≡ false = turned key t.0 o e ∙ h in
    rw f refl

there_later : (key : List ℕ) (t : Pair) (tags : List Pair) → bytes_cmp key t.0 ≡ Greater → IsThere key (t ∷ tags) → IsThere key tags
there_later key t tags e h =
    let n = place_later key t tags e in
    let g = subst (λ (k : ℕ). (k < length (t ∷ tags)) × (eq_by_cmp bytes_cmp key (get_or (t ∷ tags) k ([], [])).0 ≡ true)) n h in
    (omega (arith, g.0), g.1)

new_later : (key : List ℕ) (t : Pair) (tags : List Pair) → bytes_cmp key t.0 ≡ Greater → IsNew key (t ∷ tags) → IsNew key tags
new_later key t tags e h =
    let n = place_later key t tags e in
    let g = subst (λ (k : ℕ). k < length (t ∷ tags) → eq_by_cmp bytes_cmp key (get_or (t ∷ tags) k ([], [])).0 ≡ false) n h in
    λ l. g (omega arith)

there_put : (key value : List ℕ) (t : Pair) (tags : List Pair) (o : Ordering) → bytes_cmp key t.0 ≡ o → IsThere key (t ∷ tags)
    → (IsThere key tags → set tags (place_of key tags) (key, value) ≡ with_tag tags key value)
    → set (t ∷ tags) (place_of key (t ∷ tags)) (key, value) ≡ by_order o ((key, value) ∷ t ∷ tags) ((t.0, value) ∷ tags) (t ∷ with_tag tags key value)
there_put key value t tags Less e h rest = absurd (there_less key t tags e h)
there_put key value t tags Equal e h rest =
    ap (λ n. set (t ∷ tags) n (key, value)) (place_first key t tags Equal e refl) ∙ ap (λ (k : List ℕ). (k, value) ∷ tags) (one_key key t.0 e)
there_put key value t tags Greater e h rest =
    ap (λ n. set (t ∷ tags) n (key, value)) (place_later key t tags e) ∙ ap (λ (ts : List Pair). t ∷ ts) (rest (there_later key t tags e h))

-- A write at the place of a key that is there is the put.
pub with_tag_there : (key value : List ℕ) (tags : List Pair) → IsThere key tags → set tags (place_of key tags) (key, value) ≡ with_tag tags key value
with_tag_there key value [] h = absurd (omega (arith, h.0))
with_tag_there key value (t ∷ tags) h = there_put key value t tags (bytes_cmp key t.0) refl h (with_tag_there key value tags)

new_put : (key value : List ℕ) (t : Pair) (tags : List Pair) (o : Ordering) → bytes_cmp key t.0 ≡ o → IsNew key (t ∷ tags)
    → (IsNew key tags → insert tags (place_of key tags) (key, value) ≡ with_tag tags key value)
    → insert (t ∷ tags) (place_of key (t ∷ tags)) (key, value) ≡ by_order o ((key, value) ∷ t ∷ tags) ((t.0, value) ∷ tags) (t ∷ with_tag tags key value)
new_put key value t tags Less e h rest = ap (λ n. insert (t ∷ tags) n (key, value)) (place_first key t tags Less e refl)
new_put key value t tags Equal e h rest = absurd (new_equal key t tags e h)
new_put key value t tags Greater e h rest =
    ap (λ n. insert (t ∷ tags) n (key, value)) (place_later key t tags e) ∙ ap (λ (ts : List Pair). t ∷ ts) (rest (new_later key t tags e h))

-- An insertion at the place of a key that is new is the put.
pub with_tag_new : (key value : List ℕ) (tags : List Pair) → IsNew key tags → insert tags (place_of key tags) (key, value) ≡ with_tag tags key value
with_tag_new key value [] h = refl
with_tag_new key value (t ∷ tags) h = new_put key value t tags (bytes_cmp key t.0) refl h (with_tag_new key value tags)

there_value : (key : List ℕ) (t : Pair) (tags : List Pair) (d : Pair) (o : Ordering) → bytes_cmp key t.0 ≡ o → IsThere key (t ∷ tags)
    → (IsThere key tags → value_of tags key ≡ Some (get_or tags (place_of key tags) d).1)
    → cond (is_eq o) (Some t.1) (value_of tags key) ≡ Some (get_or (t ∷ tags) (place_of key (t ∷ tags)) d).1
there_value key t tags d Less e h rest = absurd (there_less key t tags e h)
there_value key t tags d Equal e h rest = ap (λ n. Some (get_or (t ∷ tags) n d).1) (sym (place_first key t tags Equal e refl))
there_value key t tags d Greater e h rest =
    rest (there_later key t tags e h) ∙ ap (λ n. Some (get_or (t ∷ tags) n d).1) (sym (place_later key t tags e))

-- The value at the place of a key that is there is the key's.
pub value_of_there : (key : List ℕ) (tags : List Pair) (d : Pair) → IsThere key tags → value_of tags key ≡ Some (get_or tags (place_of key tags) d).1
value_of_there key [] d h = absurd (omega (arith, h.0))
value_of_there key (t ∷ tags) d h = there_value key t tags d (bytes_cmp key t.0) refl h (value_of_there key tags d)

-- A key below or at the head of tags in order is below the others.
below_more : (key j : List ℕ) (tags : List Pair) → bytes_cmp key j ≡ Less → T (below_all bytes_cmp j tags) → T (below_all bytes_cmp key tags)
below_more key j [] e h = tt
below_more key j (t ∷ tags) e h =
    let l : bytes_cmp key t.0 ≡ Less = nat_list_cmp_total.trans key j t.0 e (less_from_T (bytes_cmp j t.0) (first_T (is_lt (bytes_cmp j t.0)) _ h)) in
    rw l (below_more key j tags e (second_T (is_lt (bytes_cmp j t.0)) _ h))

below_value : (key : List ℕ) (tags : List Pair) → T (below_all bytes_cmp key tags) → value_of tags key ≡ None
below_value key [] h = refl
below_value key (t ∷ tags) h =
    let l : bytes_cmp key t.0 ≡ Less = less_from_T (bytes_cmp key t.0) (first_T (is_lt (bytes_cmp key t.0)) _ h) in
    rw l (below_value key tags (second_T (is_lt (bytes_cmp key t.0)) _ h))

below_without : (key : List ℕ) (tags : List Pair) → T (below_all bytes_cmp key tags) → without_tag tags key ≡ tags
below_without key [] h = refl
below_without key (t ∷ tags) h =
    let l : bytes_cmp key t.0 ≡ Less = less_from_T (bytes_cmp key t.0) (first_T (is_lt (bytes_cmp key t.0)) _ h) in
    rw l (ap (λ (ts : List Pair). t ∷ ts) (below_without key tags (second_T (is_lt (bytes_cmp key t.0)) _ h)))

new_value : (key : List ℕ) (t : Pair) (tags : List Pair) (o : Ordering) → bytes_cmp key t.0 ≡ o → T (below_all bytes_cmp t.0 tags) → IsNew key (t ∷ tags)
    → (IsNew key tags → value_of tags key ≡ None)
    → cond (is_eq o) (Some t.1) (value_of tags key) ≡ None
new_value key t tags Less e s h rest = below_value key tags (below_more key t.0 tags e s)
new_value key t tags Equal e s h rest = absurd (new_equal key t tags e h)
new_value key t tags Greater e s h rest = rest (new_later key t tags e h)

-- A key that is new has no value.
pub value_of_new : (key : List ℕ) (tags : List Pair) → T (is_sorted bytes_cmp tags) → IsNew key tags → value_of tags key ≡ None
value_of_new key [] s h = refl
value_of_new key (t ∷ tags) s h =
    new_value key t tags (bytes_cmp key t.0) refl (first_T (below_all bytes_cmp t.0 tags) _ s) h (value_of_new key tags (second_T (below_all bytes_cmp t.0 tags) _ s))

there_take : (key : List ℕ) (t : Pair) (tags : List Pair) (o : Ordering) → bytes_cmp key t.0 ≡ o → T (below_all bytes_cmp t.0 tags) → IsThere key (t ∷ tags)
    → (IsThere key tags → remove tags (place_of key tags) ≡ without_tag tags key)
    → remove (t ∷ tags) (place_of key (t ∷ tags)) ≡ cond (not (is_eq o)) (t ∷ without_tag tags key) (without_tag tags key)
there_take key t tags Less e s h rest = absurd (there_less key t tags e h)
there_take key t tags Equal e s h rest =
    ap (remove (t ∷ tags)) (place_first key t tags Equal e refl)
    ∙ sym (below_without key tags (subst (λ (k : List ℕ). T (below_all bytes_cmp k tags)) (sym (one_key key t.0 e)) s))
there_take key t tags Greater e s h rest =
    ap (remove (t ∷ tags)) (place_later key t tags e) ∙ ap (λ (ts : List Pair). t ∷ ts) (rest (there_later key t tags e h))

-- A removal at the place of a key that is there is the take.
pub without_tag_there : (key : List ℕ) (tags : List Pair) → T (is_sorted bytes_cmp tags) → IsThere key tags → remove tags (place_of key tags) ≡ without_tag tags key
without_tag_there key [] s h = absurd (omega (arith, h.0))
without_tag_there key (t ∷ tags) s h =
    there_take key t tags (bytes_cmp key t.0) refl (first_T (below_all bytes_cmp t.0 tags) _ s) h (without_tag_there key tags (second_T (below_all bytes_cmp t.0 tags) _ s))

new_take : (key : List ℕ) (t : Pair) (tags : List Pair) (o : Ordering) → bytes_cmp key t.0 ≡ o → T (below_all bytes_cmp t.0 tags) → IsNew key (t ∷ tags)
    → (IsNew key tags → without_tag tags key ≡ tags)
    → cond (not (is_eq o)) (t ∷ without_tag tags key) (without_tag tags key) ≡ t ∷ tags
new_take key t tags Less e s h rest = ap (λ (ts : List Pair). t ∷ ts) (below_without key tags (below_more key t.0 tags e s))
new_take key t tags Equal e s h rest = absurd (new_equal key t tags e h)
new_take key t tags Greater e s h rest = ap (λ (ts : List Pair). t ∷ ts) (rest (new_later key t tags e h))

-- Without a key that is new, tags stay as they are.
pub without_tag_new : (key : List ℕ) (tags : List Pair) → T (is_sorted bytes_cmp tags) → IsNew key tags → without_tag tags key ≡ tags
without_tag_new key [] s h = refl
without_tag_new key (t ∷ tags) s h =
    new_take key t tags (bytes_cmp key t.0) refl (first_T (below_all bytes_cmp t.0 tags) _ s) h (without_tag_new key tags (second_T (below_all bytes_cmp t.0 tags) _ s))

-- what the code tests at a place
abbrev pub stands : List ℕ → List Pair → ℕ → Bool
stands key tags at = nat_lt at (length tags) && eq_by_cmp bytes_cmp key (get_or tags at ([], [])).0

pub there : (key : List ℕ) (tags : List Pair) (at : ℕ) → at ≡ place_of key tags → stands key tags at ≡ true → IsThere key tags
there key tags at e h =
    let p = and_parts (nat_lt (place_of key tags) (length tags)) _ (subst (λ n. stands key tags n ≡ true) e h) in
    (ltb-true _ _ p.0, p.1)

pub new : (key : List ℕ) (tags : List Pair) (at : ℕ) → at ≡ place_of key tags → stands key tags at ≡ false → IsNew key tags
new key tags at e h l =
    ap (λ b. b && eq_by_cmp bytes_cmp key (get_or tags (place_of key tags) ([], [])).0) (sym (lt-ltb _ _ l)) ∙ subst (λ n. stands key tags n ≡ false) e h

-- A key is there exactly where it stands at its place.
pub has_tag_there : (key : List ℕ) (tags : List Pair) → IsThere key tags → has_tag tags key ≡ true
has_tag_there key tags h = has_tag_is tags key ∙ ap is_some (value_of_there key tags ([], []) h)

pub has_tag_new : (key : List ℕ) (tags : List Pair) → T (is_sorted bytes_cmp tags) → IsNew key tags → has_tag tags key ≡ false
has_tag_new key tags s h = has_tag_is tags key ∙ ap is_some (value_of_new key tags s h)

pub has_tag_stands : (key : List ℕ) (tags : List Pair) (at : ℕ) (b : Bool) → T (is_sorted bytes_cmp tags) → at ≡ place_of key tags → stands key tags at ≡ b → b ≡ has_tag tags key
has_tag_stands key tags at true s e h = sym (has_tag_there key tags (there key tags at e h))
has_tag_stands key tags at false s e h = sym (has_tag_new key tags s (new key tags at e h))
