-- What a change of tags leaves: its look-ups, its order, its place.
use Rattle.std.proofs.Common.{◌≡◌, ℕ, ◌<◌, Bool, true, false, not, cond, List, [], ◌∷◌, ◌++◌, length, Option, Some, is_some, refl, sym, ◌∙◌, ap, subst}
use Rattle.std.specs.declared.cmp.Ordering.TheVariants.{Less, Equal, Greater}
use Rattle.std.specs.Ordering.{eq_by_cmp, is_lt, is_eq, ordering_reverse}
use Rattle.std.specs.Cmp.{Equal-is}
use Rattle.std.specs.List.{list_all, filter}
use Rattle.std.specs.Prelude.{nat_lt, T}
use Rattle.std.specs.FinMap.{slice_cmp-IsAntisymmetric, nat_cmp-IsAntisymmetric, is_sorted}
use Rattle.std.specs.FinMap.Entries.{is_sorted-put, is_sorted-where_key, find-put, is_some-find, by_order, below_all, same_entries}
use Rattle.std.proofs.lemmas.Bool.{lt-ltb}
use Rattle.std.proofs.lemmas.Cmp.{nat_list_cmp_total, tied_itself}
use Rattle.osm_base.proofs.AnyMap.{list_any_map}
use Rattle.osm_base.specs.Tags.{Pair, bytes_cmp, are_tags, value_of, with_tag, without_tag, has_tag}
use Rattle.osm_base.proofs.Tests.{both_T, first_T, second_T, less_from_T}

-- Keys that tie are one.
pub one_key : (k j : List ℕ) → bytes_cmp k j ≡ Equal → k ≡ j
one_key = slice_cmp-IsAntisymmetric nat_cmp-IsAntisymmetric

pub same_keys : (k j : List ℕ) → eq_by_cmp bytes_cmp k j ≡ true → k ≡ j
same_keys k j e = one_key k j ((Equal-is (bytes_cmp k j)).0 e)

pub key_itself : (key : List ℕ) → eq_by_cmp bytes_cmp key key ≡ true
key_itself key = ap is_eq (tied_itself nat_list_cmp_total key)

-- After a put the key has the new value.
pub value_of_put : (tags : List Pair) (key value : List ℕ) → value_of (with_tag tags key value) key ≡ Some value
value_of_put tags key value =
    find-put bytes_cmp nat_list_cmp_total key key value tags ∙ ap (λ b. cond b (Some value) (value_of tags key)) (key_itself key)

-- A key is there exactly where it has a value.
pub has_tag_is : (tags : List Pair) (key : List ℕ) → has_tag tags key ≡ is_some (value_of tags key)
has_tag_is tags key =
    sym (list_any_map (eq_by_cmp bytes_cmp key) (λ (t : Pair). t.0) tags) ∙ sym (is_some-find bytes_cmp key tags)

-- The list of tags is in order.
pub in_order : (tags : List Pair) → T (are_tags tags) → T (is_sorted bytes_cmp tags)
in_order tags h = first_T (is_sorted bytes_cmp tags) _ h

named_put : (key value : List ℕ) (tags : List Pair) → T (nat_lt 0 (length key)) → T (list_all (λ t. nat_lt 0 (length t.0)) tags) → T (list_all (λ t. nat_lt 0 (length t.0)) (with_tag tags key value))
named_put key value [] k h = both_T _ _ k h
named_put key value (t ∷ tags) k h = elim (bytes_cmp key t.0) as (λ o. T (list_all (λ t. nat_lt 0 (length t.0)) (by_order o ((key, value) ∷ t ∷ tags) ((t.0, value) ∷ tags) (t ∷ with_tag tags key value)))) [
  | Less ↦ both_T _ _ k h
  | Equal ↦ h
  | Greater ↦ both_T _ _ (first_T (nat_lt 0 (length t.0)) _ h) (named_put key value tags k (second_T (nat_lt 0 (length t.0)) _ h))
]

named_without : (p : List ℕ → Bool) (tags : List Pair) → T (list_all (λ t. nat_lt 0 (length t.0)) tags) → T (list_all (λ t. nat_lt 0 (length t.0)) (filter (λ t. p t.0) tags))
named_without p [] h = h
named_without p (t ∷ tags) h = elim (p t.0) as (λ b. T (list_all (λ t. nat_lt 0 (length t.0)) (cond b (t ∷ filter (λ t. p t.0) tags) (filter (λ t. p t.0) tags)))) [
  | true ↦ both_T _ _ (first_T (nat_lt 0 (length t.0)) _ h) (named_without p tags (second_T (nat_lt 0 (length t.0)) _ h))
  | false ↦ named_without p tags (second_T (nat_lt 0 (length t.0)) _ h)
]

-- A key that is not empty, as the test of the tags says it.
pub named : (key : List ℕ) → 0 < length key → T (nat_lt 0 (length key))
named key h = subst T (sym (lt-ltb 0 (length key) h)) tt

-- A put keeps the tags in order,
pub are_tags_put : (key value : List ℕ) (tags : List Pair) → T (nat_lt 0 (length key)) → T (are_tags tags) → T (are_tags (with_tag tags key value))
are_tags_put key value tags k h =
    both_T _ _ (is_sorted-put bytes_cmp nat_list_cmp_total key value tags (first_T (is_sorted bytes_cmp tags) _ h)) (named_put key value tags k (second_T (is_sorted bytes_cmp tags) _ h))

-- and so does a take.
pub are_tags_without : (key : List ℕ) (tags : List Pair) → T (are_tags tags) → T (are_tags (without_tag tags key))
are_tags_without key tags h =
    both_T _ _ (is_sorted-where_key bytes_cmp (λ k. not (eq_by_cmp bytes_cmp key k)) tags (first_T (is_sorted bytes_cmp tags) _ h)) (named_without (λ k. not (eq_by_cmp bytes_cmp key k)) tags (second_T (is_sorted bytes_cmp tags) _ h))

-- How a greater key shows from the other side.
above : (j k : List ℕ) → T (is_lt (bytes_cmp j k)) → bytes_cmp k j ≡ Greater
above j k h = nat_list_cmp_total.antisymm k j ∙ ap ordering_reverse (less_from_T (bytes_cmp j k) h)

-- The key above all others
below_back : (j : List ℕ) (front back : List Pair) (t : Pair) → T (below_all bytes_cmp j (front ++ t ∷ back)) → T (is_lt (bytes_cmp j t.0))
below_back j [] back t h = first_T (is_lt (bytes_cmp j t.0)) _ h
below_back j (f ∷ front) back t h = below_back j front back t (second_T (is_lt (bytes_cmp j f.0)) _ h)

sorted_put_last : (front back : List Pair) (t : Pair) → T (is_sorted bytes_cmp (front ++ t ∷ back)) → with_tag front t.0 t.1 ≡ front ++ t ∷ []
sorted_put_last [] back t h = refl
sorted_put_last (f ∷ front) back t h =
    let o = above f.0 t.0 (below_back f.0 front back t (first_T (below_all bytes_cmp f.0 (front ++ t ∷ back)) _ h)) in
    let rest = sorted_put_last front back t (second_T (below_all bytes_cmp f.0 (front ++ t ∷ back)) _ h) in
    rw o (ap (λ (ts : List Pair). f ∷ ts) rest)

sorted_has_last : (front back : List Pair) (t : Pair) → T (is_sorted bytes_cmp (front ++ t ∷ back)) → has_tag front t.0 ≡ false
sorted_has_last [] back t h = refl
sorted_has_last (f ∷ front) back t h =
    let o = above f.0 t.0 (below_back f.0 front back t (first_T (below_all bytes_cmp f.0 (front ++ t ∷ back)) _ h)) in
    let rest = sorted_has_last front back t (second_T (below_all bytes_cmp f.0 (front ++ t ∷ back)) _ h) in
    rw o rest

-- Of tags that are put in their order each goes to the end,
pub put_last : (front back : List Pair) (t : Pair) → T (are_tags (front ++ t ∷ back)) → with_tag front t.0 t.1 ≡ front ++ t ∷ []
put_last front back t h = sorted_put_last front back t (first_T (is_sorted bytes_cmp (front ++ t ∷ back)) _ h)

-- and its key is not there yet.
pub has_last : (front back : List Pair) (t : Pair) → T (are_tags (front ++ t ∷ back)) → has_tag front t.0 ≡ false
has_last front back t h = sorted_has_last front back t (first_T (is_sorted bytes_cmp (front ++ t ∷ back)) _ h)

two_found : (a b : Bool) (x y z : Option (List ℕ)) → (a ≡ true → b ≡ true → ⊥) → cond a x (cond b y z) ≡ cond b y (cond a x z)
two_found true true x y z apart = absurd (apart refl refl)
two_found true false x y z apart = refl
two_found false b x y z apart = refl

-- Tags of two keys may be put in either order.
pub either_first : (tags : List Pair) (a b : Pair) → T (is_sorted bytes_cmp tags) → eq_by_cmp bytes_cmp b.0 a.0 ≡ false → with_tag (with_tag tags a.0 a.1) b.0 b.1 ≡ with_tag (with_tag tags b.0 b.1) a.0 a.1
either_first tags a b sorted apart =
    let put : (t : Pair) (ts : List Pair) → T (is_sorted bytes_cmp ts) → T (is_sorted bytes_cmp (with_tag ts t.0 t.1)) = λ t ts h. is_sorted-put bytes_cmp nat_list_cmp_total t.0 t.1 ts h in
    same_entries bytes_cmp nat_list_cmp_total one_key _ _ (put b (with_tag tags a.0 a.1) (put a tags sorted)) (put a (with_tag tags b.0 b.1) (put b tags sorted))
    (λ q. find-put bytes_cmp nat_list_cmp_total q b.0 b.1 (with_tag tags a.0 a.1) ∙ ap (λ o. cond (eq_by_cmp bytes_cmp q b.0) (Some b.1) o) (find-put bytes_cmp nat_list_cmp_total q a.0 a.1 tags)
    ∙ two_found (eq_by_cmp bytes_cmp q b.0) (eq_by_cmp bytes_cmp q a.0) (Some b.1) (Some a.1) (value_of tags q)
    (λ is_b is_a. let same : b.0 ≡ a.0 = sym (same_keys q b.0 is_b) ∙ same_keys q a.0 is_a in
    let one : eq_by_cmp bytes_cmp b.0 a.0 ≡ true = ap (λ (k : List ℕ). eq_by_cmp bytes_cmp b.0 k) (sym same) ∙ key_itself b.0 in
    let bad : ⊥ = cc in bad)
    ∙ ap (λ o. cond (eq_by_cmp bytes_cmp q a.0) (Some a.1) o) (sym (find-put bytes_cmp nat_list_cmp_total q b.0 b.1 tags)) ∙ sym (find-put bytes_cmp nat_list_cmp_total q a.0 a.1 (with_tag tags b.0 b.1)))
