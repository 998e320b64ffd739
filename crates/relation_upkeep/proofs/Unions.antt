-- Tags that are set in the order of their keys make the union of the tags in any order, or find the least clash.
use Rattle.std.proofs.Common.{◌≡◌, ◌≢◌, ◌&&◌, ◌||◌, ℕ, ◌<◌, ◌≤◌, suc, Bool, true, false, not, cond, is_some, List, [], ◌∷◌, ◌++◌, length, get_or, Option, Some, None, Ok, Err, refl, sym, ap, ◌∙◌, subst, arith, Ordering, fold}
use mathlib.Core.Logic.{◌⊎◌, inl, inr}
use Rattle.std.specs.declared.cmp.Ordering.TheVariants.{Less, Equal, Greater}
use Rattle.std.specs.Ordering.{eq_by_cmp, is_lt, is_eq}
use Rattle.std.specs.Option.{option_map}
use Rattle.std.specs.List.{find, list_any, list_all}
use Rattle.std.specs.Prelude.{T, nat_lt}
use Rattle.std.specs.FinMap.Entries.{is_sorted, is_sorted-put, find-put, by_order, below_all, same_entries}
use Rattle.std.proofs.lemmas.Cmp.{nat_list_cmp_total}
use Rattle.std.proofs.lemmas.List.Sums.{fold-append}
use Rattle.std.specs.List.Sorted.{IsPermutation, IsSortedBy}
use Rattle.std.specs.Cmp.{Equal-is}
use Rattle.std.proofs.lemmas.List.Sorted.{list_any-IsPermutation, sorted_far, ranks_by}
use Rattle.std.proofs.Math.Bool.{or-true}
use Rattle.osm_base.specs.Same.{same_text, same_tag}
use Rattle.osm_base.specs.Tags.{Pair, bytes_cmp, value_of, with_tag}
use Rattle.osm_base.proofs.SameLaws.{same_text_decides, same_tag_decides}
use Rattle.osm_base.proofs.TagLaws.{one_key, key_itself, value_of_put}
use Rattle.osm_base.proofs.Tests.{both_T, first_T, second_T, true_from_T}
use Rattle.tool_api.specs.declared.refusal.Refusal.{Refusal}
use Rattle.tool_api.specs.declared.refusal.Refusal.TheVariants.{TagClash}
use Rattle.tool_api.specs.Checks.{◌>>◌}
use Rattle.tool_api.specs.Combine.{united, clash_test}
use Rattle.relation_upkeep.specs.Union.{unless, differs, put_on, union_of}

-- a tag is one of those
abbrev pub In : Pair → List Pair → Type 0
In p [] = ⊥
In p (t ∷ ts) = (p ≡ t) ⊎ In p ts

in_front : (p : Pair) (xs ys : List Pair) → In p xs → In p (xs ++ ys)
in_front p [] ys h = absurd h
in_front p (x ∷ xs) ys (inl e) = inl e
in_front p (x ∷ xs) ys (inr h) = inr (in_front p xs ys h)

in_back : (p : Pair) (xs ys : List Pair) → In p ys → In p (xs ++ ys)
in_back p [] ys h = h
in_back p (x ∷ xs) ys h = inr (in_back p xs ys h)

in_either : (p : Pair) (xs ys : List Pair) → In p (xs ++ ys) → In p xs ⊎ In p ys
in_either p [] ys h = inr h
in_either p (x ∷ xs) ys (inl e) = inl (inl e)
in_either p (x ∷ xs) ys (inr h) = elim (in_either p xs ys h) [ inl a ↦ inl (inr a) | inr b ↦ inr b ]

-- Keys and values.

one_text : (k j : List ℕ) → eq_by_cmp bytes_cmp k j ≡ true → k ≡ j
one_text k j e = one_key k j ((Equal-is (bytes_cmp k j)).0 e)

pair_of : (k v : List ℕ) (t : Pair) → k ≡ t.0 → v ≡ t.1 → (k, v) ≡ t
pair_of k v t p q = λ i. (p i, q i)

-- a value that is found is a tag's
found_case : (t : Pair) (ts : List Pair) (k v : List ℕ) (b : Bool) → eq_by_cmp bytes_cmp k t.0 ≡ b → cond b (Some t.1) (value_of ts k) ≡ Some v → (value_of ts k ≡ Some v → In (k, v) ts) → In (k, v) (t ∷ ts)
found_case t ts k v true same e there = inl (pair_of k v t (one_text k t.0 same) (let i : v ≡ t.1 = cc in i))
found_case t ts k v false same e there = inr (there e)

value_in : (ts : List Pair) (k v : List ℕ) → value_of ts k ≡ Some v → In (k, v) ts
value_in [] k v e = cc
value_in (t ∷ ts) k v e = found_case t ts k v (eq_by_cmp bytes_cmp k t.0) refl e (value_in ts k v)

-- Setting one tag after the other.

abbrev pub unite : List Pair → List Pair → List Pair
unite so_far ts = fold (λ so_far t. with_tag so_far t.0 t.1) so_far ts

put_case : (k v : List ℕ) (t : Pair) (ts : List Pair) (p : Pair) (o : Ordering) → bytes_cmp k t.0 ≡ o → In p (by_order o ((k, v) ∷ t ∷ ts) ((t.0, v) ∷ ts) (t ∷ with_tag ts k v))
    → (In p (with_tag ts k v) → (p ≡ (k, v)) ⊎ In p ts) → (p ≡ (k, v)) ⊎ In p (t ∷ ts)
put_case k v t ts p Less is (inl e) rest = inl e
put_case k v t ts p Less is (inr h) rest = inr h
put_case k v t ts p Equal is (inl e) rest = inl (e ∙ (let s = sym (one_key k t.0 is) in λ i. (s i, v)))
put_case k v t ts p Equal is (inr h) rest = inr (inr h)
put_case k v t ts p Greater is (inl e) rest = inr (inl e)
put_case k v t ts p Greater is (inr h) rest = elim (rest h) [ inl a ↦ inl a | inr b ↦ inr (inr b) ]

in_put : (ts : List Pair) (k v : List ℕ) (p : Pair) → In p (with_tag ts k v) → (p ≡ (k, v)) ⊎ In p ts
in_put [] k v p (inl e) = inl e
in_put [] k v p (inr h) = absurd h
in_put (t ∷ ts) k v p h = put_case k v t ts p (bytes_cmp k t.0) refl h (in_put ts k v p)

in_unite : (ts so_far : List Pair) (p : Pair) → In p (unite so_far ts) → In p so_far ⊎ In p ts
in_unite [] so_far p h = inl h
in_unite (t ∷ ts) so_far p h = elim (in_unite ts (with_tag so_far t.0 t.1) p h) [
  | inl a ↦ (elim (in_put so_far t.0 t.1 p a) [ inl e ↦ inr (inl e) | inr b ↦ inl b ])
  | inr b ↦ inr (inr b)
]

-- the union has tags of the list alone
pub in_united : (ts : List Pair) (p : Pair) → In p (united ts) → In p ts
in_united ts p h = elim (in_unite ts [] p h) [ inl a ↦ absurd a | inr b ↦ b ]

some_cond : (b : Bool) (v : List ℕ) (o : Option (List ℕ)) → is_some o ≡ true → is_some (cond b (Some v) o) ≡ true
some_cond true v o h = refl
some_cond false v o h = h

keeps_put : (ts : List Pair) (k v q : List ℕ) → is_some (value_of ts q) ≡ true → is_some (value_of (with_tag ts k v) q) ≡ true
keeps_put ts k v q h = ap is_some (find-put bytes_cmp nat_list_cmp_total q k v ts) ∙ some_cond (eq_by_cmp bytes_cmp q k) v (value_of ts q) h

keeps_unite : (ts so_far : List Pair) (q : List ℕ) → is_some (value_of so_far q) ≡ true → is_some (value_of (unite so_far ts) q) ≡ true
keeps_unite [] so_far q h = h
keeps_unite (t ∷ ts) so_far q h = keeps_unite ts (with_tag so_far t.0 t.1) q (keeps_put so_far t.0 t.1 q h)

some_unite : (ts so_far : List Pair) (p : Pair) → In p ts → is_some (value_of (unite so_far ts) p.0) ≡ true
some_unite [] so_far p h = absurd h
some_unite (t ∷ ts) so_far p (inl e) = keeps_unite ts (with_tag so_far t.0 t.1) p.0 (ap (λ (x : Pair). is_some (value_of (with_tag so_far t.0 t.1) x.0)) e ∙ ap is_some (value_of_put so_far t.0 t.1))
some_unite (t ∷ ts) so_far p (inr h) = some_unite ts (with_tag so_far t.0 t.1) p h

is_value : (o : Option (List ℕ)) → is_some o ≡ true → (v : List ℕ) × (o ≡ Some v)
is_value None e = cc
is_value (Some v) e = (v, refl)

-- each key has a value in the union
has_value : (ts : List Pair) (p : Pair) → In p ts → (v : List ℕ) × (value_of (united ts) p.0 ≡ Some v)
has_value ts p h = is_value (value_of (united ts) p.0) (some_unite ts [] p h)

sorted_unite : (ts so_far : List Pair) → T (is_sorted bytes_cmp so_far) → T (is_sorted bytes_cmp (unite so_far ts))
sorted_unite [] so_far h = h
sorted_unite (t ∷ ts) so_far h = sorted_unite ts (with_tag so_far t.0 t.1) (is_sorted-put bytes_cmp nat_list_cmp_total t.0 t.1 so_far h)

united_more : (ps : List Pair) (q : Pair) → united (ps ++ q ∷ []) ≡ with_tag (united ps) q.0 q.1
united_more ps q = fold-append (λ (so_far : List Pair) (t : Pair). with_tag so_far t.0 t.1) [] ps (q ∷ [])

-- Clashes.

-- no key has two values
abbrev pub Agree : List Pair → Type 0
Agree ts = (k v w : List ℕ) → In (k, v) ts → In (k, w) ts → v ≡ w

-- whether another value is among those
abbrev pub clash_in : List Pair → Pair → Bool
clash_in ts p = list_any (λ (q : Pair). same_text p.0 q.0 && not (same_text p.1 q.1)) ts

calm_case : (p q : Pair) (b : Bool) → same_text p.0 q.0 ≡ b → (p.0 ≡ q.0 → p.1 ≡ q.1) → (b && not (same_text p.1 q.1)) ≡ false
calm_case p q true is h = ap not ((same_text_decides p.1 q.1).1 (h ((same_text_decides p.0 q.0).0 is)))
calm_case p q false is h = refl

no_clash : (ts : List Pair) (p : Pair) → ((q : Pair) → In q ts → p.0 ≡ q.0 → p.1 ≡ q.1) → clash_in ts p ≡ false
no_clash [] p h = refl
no_clash (t ∷ ts) p h = (let a = calm_case p t (same_text p.0 t.0) refl (h t (inl refl)) in let b = no_clash ts p (λ q has. h q (inr has)) in λ i. a i || b i)

unlike_case : (v w : List ℕ) (b : Bool) → same_text v w ≡ b → v ≢ w → not b ≡ true
unlike_case v w true is apart = absurd (apart ((same_text_decides v w).0 is))
unlike_case v w false is apart = refl

some_clash : (ts : List Pair) (p q : Pair) → In q ts → p.0 ≡ q.0 → p.1 ≢ q.1 → clash_in ts p ≡ true
some_clash [] p q h same apart = absurd h
some_clash (t ∷ ts) p q (inl e) same apart =
    let a : same_text p.0 t.0 ≡ true = (same_text_decides p.0 t.0).1 (same ∙ ap (λ (x : Pair). x.0) e) in
    let b : not (same_text p.1 t.1) ≡ true = unlike_case p.1 t.1 (same_text p.1 t.1) refl (λ f. apart (f ∙ sym (ap (λ (x : Pair). x.1) e))) in
    λ i. (a i && b i) || clash_in ts p
some_clash (t ∷ ts) p q (inr h) same apart =
    ap (λ c. (same_text p.0 t.0 && not (same_text p.1 t.1)) || c) (some_clash ts p q h same apart) ∙ or-true (same_text p.0 t.0 && not (same_text p.1 t.1))

none_found : (C : Pair → Bool) (ts : List Pair) → ((p : Pair) → In p ts → C p ≡ false) → find C ts ≡ None
none_found C [] h = refl
none_found C (t ∷ ts) h = ap (λ b. cond b (Some t) (find C ts)) (h t (inl refl)) ∙ none_found C ts (λ p has. h p (inr has))

-- where all agree, nothing clashes, whatever the order
pub calm : (tags : List Pair) → Agree tags → clash_test tags ≡ None
calm tags agree = ap (option_map (λ (p : Pair). TagClash p.0)) (none_found (clash_in tags) (united tags)
    (λ p has. no_clash tags p (λ q in_q same. agree p.0 p.1 q.1 (in_united tags p has) (subst (λ (k : List ℕ). In (k, q.1) tags) (sym same) in_q))))

-- and the union is the same
value_alike : (xs ys : List Pair) (k : List ℕ) → Agree ys → ((p : Pair) → In p xs → In p ys) → ((p : Pair) → In p ys → In p xs)
    → (a b : Option (List ℕ)) → value_of (united xs) k ≡ a → value_of (united ys) k ≡ b → a ≡ b
value_alike xs ys k agree to from None None e f = refl
value_alike xs ys k agree to from None (Some w) e f =
    let h = has_value xs (k, w) (from (k, w) (in_united ys (k, w) (value_in (united ys) k w f))) in
    let i : None ≡ Some h.0 = sym e ∙ h.1 in cc
value_alike xs ys k agree to from (Some v) None e f =
    let h = has_value ys (k, v) (to (k, v) (in_united xs (k, v) (value_in (united xs) k v e))) in
    let i : None ≡ Some h.0 = sym f ∙ h.1 in cc
value_alike xs ys k agree to from (Some v) (Some w) e f =
    ap Some (agree k v w (to (k, v) (in_united xs (k, v) (value_in (united xs) k v e))) (in_united ys (k, w) (value_in (united ys) k w f)))

pub same_union : (xs ys : List Pair) → Agree ys → ((p : Pair) → In p xs → In p ys) → ((p : Pair) → In p ys → In p xs) → united xs ≡ united ys
same_union xs ys agree to from =
    same_entries bytes_cmp nat_list_cmp_total one_key (united xs) (united ys) (sorted_unite xs [] tt) (sorted_unite ys [] tt)
    (λ k. value_alike xs ys k agree to from (value_of (united xs) k) (value_of (united ys) k) refl refl)

-- The least clash.

below_in : (k : List ℕ) (ts : List Pair) (p : Pair) → T (below_all bytes_cmp k ts) → In p ts → T (is_lt (bytes_cmp k p.0))
below_in k [] p h has = absurd has
below_in k (t ∷ ts) p h (inl e) = subst (λ (x : Pair). T (is_lt (bytes_cmp k x.0))) (sym e) (first_T (is_lt (bytes_cmp k t.0)) _ h)
below_in k (t ∷ ts) p h (inr has) = below_in k ts p (second_T (is_lt (bytes_cmp k t.0)) _ h) has

first_case : (C : Pair → Bool) (t : Pair) (ts : List Pair) (p : Pair) (b : Bool) → C t ≡ b → T (below_all bytes_cmp t.0 ts) → In p (t ∷ ts) → C p ≡ true
    → ((q : Pair) → In q (t ∷ ts) → is_lt (bytes_cmp q.0 p.0) ≡ true → C q ≡ false) → (In p ts → option_map (λ (q : Pair). TagClash q.0) (find C ts) ≡ Some (TagClash p.0))
    → option_map (λ (q : Pair). TagClash q.0) (cond b (Some t) (find C ts)) ≡ Some (TagClash p.0)
first_case C t ts p true is sorted (inl e) clash least rest = ap (λ (x : Pair). Some (TagClash x.0)) (sym e)
first_case C t ts p true is sorted (inr has) clash least rest = (let f : C t ≡ false = least t (inl refl) (true_from_T _ (below_in t.0 ts p sorted has)) in cc)
first_case C t ts p false is sorted (inl e) clash least rest = (let f : C t ≡ true = ap C (sym e) ∙ clash in cc)
first_case C t ts p false is sorted (inr has) clash least rest = rest has

first_found : (C : Pair → Bool) (ts : List Pair) (p : Pair) → T (is_sorted bytes_cmp ts) → In p ts → C p ≡ true
    → ((q : Pair) → In q ts → is_lt (bytes_cmp q.0 p.0) ≡ true → C q ≡ false) → option_map (λ (q : Pair). TagClash q.0) (find C ts) ≡ Some (TagClash p.0)
first_found C [] p sorted has clash least = absurd has
first_found C (t ∷ ts) p sorted has clash least =
    first_case C t ts p (C t) refl (first_T (below_all bytes_cmp t.0 ts) _ sorted) has clash least
    (λ more. first_found C ts p (second_T (below_all bytes_cmp t.0 ts) _ sorted) more clash (λ q in_q. least q (inr in_q)))

-- two values of one key differ from each other, so one differs from any
other_value : (tags : List Pair) (k u v w : List ℕ) (b : Bool) → same_text u v ≡ b → In (k, v) tags → In (k, w) tags → v ≢ w → clash_in tags (k, u) ≡ true
other_value tags k u v w true is has_v has_w apart = some_clash tags (k, u) (k, w) has_w refl (λ e. apart (sym ((same_text_decides u v).0 is) ∙ e))
other_value tags k u v w false is has_v has_w apart = some_clash tags (k, u) (k, v) has_v refl (λ e. let f : same_text u v ≡ true = (same_text_decides u v).1 e in let g : false ≡ true = sym is ∙ f in (let bad : ⊥ = cc in bad))

pub clash_is : (tags : List Pair) (k v w : List ℕ) → In (k, v) tags → In (k, w) tags → v ≢ w
    → ((p q : Pair) → In p tags → In q tags → is_lt (bytes_cmp p.0 k) ≡ true → p.0 ≡ q.0 → p.1 ≡ q.1) → clash_test tags ≡ Some (TagClash k)
clash_is tags k v w has_v has_w apart calm_below =
    let u = has_value tags (k, v) has_v in
    first_found (clash_in tags) (united tags) (k, u.0) (sorted_unite tags [] tt) (value_in (united tags) k u.0 u.1)
    (other_value tags k u.0 v w (same_text u.0 v) refl has_v has_w apart)
    (λ p in_p below. no_clash tags p (λ q in_q same. calm_below p q (in_united tags p in_p) in_q below same))

-- The walk in the order of the keys.

-- no later key is below an earlier one
abbrev pub Rise : List Pair → Type 0
Rise [] = Unit {0}
Rise (t ∷ ts) = ((p : Pair) → In p ts → is_lt (bytes_cmp p.0 t.0) ≡ false) × Rise ts

agree_case : (ps : List Pair) (q : Pair) (o : Option (List ℕ)) → Agree ps → value_of (united ps) q.0 ≡ o → differs o q.1 ≡ false → (v : List ℕ) → In (q.0, v) ps → v ≡ q.1
agree_case ps q None agree is calm v has =
    let h = has_value ps (q.0, v) has in let i : None ≡ Some h.0 = sym is ∙ h.1 in cc
agree_case ps q (Some w) agree is calm v has =
    agree q.0 v w has (in_united ps (q.0, w) (value_in (united ps) q.0 w is)) ∙ same_case w q.1 (same_text w q.1) refl calm
  where
    same_case : (w v : List ℕ) (b : Bool) → same_text w v ≡ b → not b ≡ false → w ≡ v
    same_case w v true e f = (same_text_decides w v).0 e
    same_case w v false e f = cc

agree_more : (ps : List Pair) (q : Pair) → Agree ps → ((v : List ℕ) → In (q.0, v) ps → v ≡ q.1) → Agree (ps ++ q ∷ [])
agree_more ps q agree same k v w a b = elim (in_either (k, v) ps (q ∷ []) a) [
  | inl x ↦ (elim (in_either (k, w) ps (q ∷ []) b) [
    | inl y ↦ agree k v w x y
    | inr y ↦ (elim y [
      | inl e ↦ (same v (subst (λ (j : List ℕ). In (j, v) ps) (ap (λ (p : Pair). p.0) e) x) ∙ sym (ap (λ (p : Pair). p.1) e))
      | inr f ↦ absurd f
    ])
  ])
  | inr x ↦ (elim x [
    | inl e ↦ (elim (in_either (k, w) ps (q ∷ []) b) [
      | inl y ↦ (ap (λ (p : Pair). p.1) e ∙ sym (same w (subst (λ (j : List ℕ). In (j, w) ps) (ap (λ (p : Pair). p.0) e) y)))
      | inr y ↦ (elim y [ inl f ↦ (ap (λ (p : Pair). p.1) e ∙ sym (ap (λ (p : Pair). p.1) f)) | inr f ↦ absurd f ])
    ])
    | inr f ↦ absurd f
  ])
]

-- a tag whose key is below the next one's was set before
was_before : (ps qs : List Pair) (q : Pair) (p : Pair) → Rise (q ∷ qs) → In p (ps ++ q ∷ qs) → is_lt (bytes_cmp p.0 q.0) ≡ true → In p ps
was_before ps qs q p rise has below = elim (in_either p ps (q ∷ qs) has) [
  | inl a ↦ a
  | inr b ↦ (elim b [
    | inl e ↦ (let f : is_lt (bytes_cmp q.0 q.0) ≡ true = ap (λ (x : Pair). is_lt (bytes_cmp x.0 q.0)) (sym e) ∙ below in let g = not_below q.0 in (let bad : ⊥ = cc in absurd bad))
    | inr h ↦ (let f = rise.0 p h in (let bad : ⊥ = cc in absurd bad))
  ])
]
  where
    tie : (o : Ordering) → is_eq o ≡ true → is_lt o ≡ false
    tie Less e = cc
    tie Equal e = refl
    tie Greater e = cc

    not_below : (k : List ℕ) → is_lt (bytes_cmp k k) ≡ false
    not_below k = tie (bytes_cmp k k) (key_itself k)

unlike : (w v : List ℕ) → w ≡ v → not (same_text w v) ≡ true → ⊥
unlike w v same e = let f : same_text w v ≡ true = (same_text_decides w v).1 same in let g : false ≡ true = ap not (sym f) ∙ e in cc

differs_value : (o : Option (List ℕ)) (v : List ℕ) → differs o v ≡ true → (w : List ℕ) × (o ≡ Some w) × (w ≢ v)
differs_value None v e = cc
differs_value (Some w) v e = (w, refl, λ same. unlike w v same e)

walk_step : (qs ps tags : List Pair) (q : Pair) (b : Bool) → differs (value_of (united ps) q.0) q.1 ≡ b → Agree ps → Rise (q ∷ qs)
    → ((p : Pair) → In p (ps ++ q ∷ qs) → In p tags) → ((p : Pair) → In p tags → In p (ps ++ q ∷ qs))
    → (Agree (ps ++ q ∷ []) → put_on (united (ps ++ q ∷ [])) qs ≡ (clash_test tags >> Ok (united tags)))
    → cond b (Err (TagClash q.0)) (put_on (with_tag (united ps) q.0 q.1) qs) ≡ (clash_test tags >> Ok (united tags))
walk_step qs ps tags q true is agree rise to from rest =
    let d = differs_value (value_of (united ps) q.0) q.1 is in
    let before : (p : Pair) → In p tags → is_lt (bytes_cmp p.0 q.0) ≡ true → In p ps = λ p h below. was_before ps qs q p rise (from p h) below in
    sym (ap (λ o. o >> Ok (united tags)) (clash_is tags q.0 d.0 q.1
    (to (q.0, d.0) (in_front (q.0, d.0) ps (q ∷ qs) (in_united ps (q.0, d.0) (value_in (united ps) q.0 d.0 d.1))))
    (to q (in_back q ps (q ∷ qs) (inl refl))) d.2
    (λ p r in_p in_r below same. agree p.0 p.1 r.1 (before p in_p below)
    (subst (λ (k : List ℕ). In (k, r.1) ps) (sym same) (before r in_r (ap (λ (k : List ℕ). is_lt (bytes_cmp k q.0)) (sym same) ∙ below))))))
walk_step qs ps tags q false is agree rise to from rest =
    ap (λ (x : List Pair). put_on x qs) (sym (united_more ps q)) ∙ rest (agree_more ps q agree (agree_case ps q (value_of (united ps) q.0) agree refl is))

one_on : (ps : List Pair) (q : Pair) (qs : List Pair) → (ps ++ q ∷ []) ++ qs ≡ ps ++ q ∷ qs
one_on [] q qs = refl
one_on (p ∷ ps) q qs = ap (λ (l : List Pair). p ∷ l) (one_on ps q qs)

walk : (qs ps tags : List Pair) → Agree ps → Rise qs → ((p : Pair) → In p (ps ++ qs) → In p tags) → ((p : Pair) → In p tags → In p (ps ++ qs))
    → put_on (united ps) qs ≡ (clash_test tags >> Ok (united tags))
walk [] ps tags agree rise to from =
    let back : (p : Pair) → In p tags → In p ps = λ p h. elim (in_either p ps [] (from p h)) [ inl a ↦ a | inr b ↦ absurd b ] in
    let all : Agree tags = λ k v w a b. agree k v w (back (k, v) a) (back (k, w) b) in
    ap Ok (same_union ps tags all (λ p h. to p (in_front p ps [] h)) back) ∙ sym (ap (λ o. o >> Ok (united tags)) (calm tags all))
walk (q ∷ qs) ps tags agree rise to from =
    let same : (ps ++ q ∷ []) ++ qs ≡ ps ++ q ∷ qs = one_on ps q qs in
    walk_step qs ps tags q (differs (value_of (united ps) q.0) q.1) refl agree rise to from
    (λ more. walk qs (ps ++ q ∷ []) tags more rise.1 (λ p h. to p (subst (In p) same h)) (λ p h. subst (In p) (sym same) (from p h)))

-- From what a sort says.

is_tag : (p t : Pair) → p ≡ t → same_tag p t ≡ true
is_tag p t e = (same_tag_decides p t).1 e

in_any : (ts : List Pair) (p : Pair) → In p ts → list_any (same_tag p) ts ≡ true
in_any [] p h = absurd h
in_any (t ∷ ts) p (inl e) = ap (λ b. b || list_any (same_tag p) ts) (is_tag p t e)
in_any (t ∷ ts) p (inr h) = ap (λ b. same_tag p t || b) (in_any ts p h) ∙ or-true (same_tag p t)

any_case : (ts : List Pair) (p t : Pair) (b : Bool) → same_tag p t ≡ b → (b || list_any (same_tag p) ts) ≡ true → (list_any (same_tag p) ts ≡ true → In p ts) → In p (t ∷ ts)
any_case ts p t true is h rest = inl ((same_tag_decides p t).0 is)
any_case ts p t false is h rest = inr (rest h)

any_in : (ts : List Pair) (p : Pair) → list_any (same_tag p) ts ≡ true → In p ts
any_in [] p h = cc
any_in (t ∷ ts) p h = any_case ts p t (same_tag p t) refl h (any_in ts p)

moved : (xs ys : List Pair) → IsPermutation xs ys → (p : Pair) → In p xs → In p ys
moved xs ys m p h = any_in ys p (sym (list_any-IsPermutation (same_tag p) xs ys m) ∙ in_any xs p h)

moved_back : (xs ys : List Pair) → IsPermutation xs ys → (p : Pair) → In p ys → In p xs
moved_back xs ys m p h = any_in xs p (list_any-IsPermutation (same_tag p) xs ys m ∙ in_any ys p h)

abbrev pub before : Pair → Pair → Bool
before a b = is_lt (bytes_cmp a.0 b.0)

abbrev Pairwise : List Pair → Type 0
Pairwise ts = (i j : ℕ) (d : Pair) → i ≤ j → j < length ts → before (get_or ts j d) (get_or ts i d) ≡ false

place_of : (ts : List Pair) (p : Pair) → In p ts → (i : ℕ) × (i < length ts) × (get_or ts i p ≡ p)
place_of [] p h = absurd h
place_of (t ∷ ts) p (inl e) = (0, (omega arith), sym e)
place_of (t ∷ ts) p (inr h) = let r = place_of ts p h in let l = r.1 in (suc r.0, (omega (arith, l)), r.2)

rises : (ts : List Pair) → Pairwise ts → Rise ts
rises [] h = tt
rises (t ∷ ts) h = (
  (λ p has. let r = place_of ts p has in let l = r.1 in ap (λ (x : Pair). before x t) (sym r.2) ∙ h 0 (suc r.0) p (omega arith) (omega (arith, l))),
  rises ts (λ i j d le lt. h (suc i) (suc j) d (omega (arith, le)) (omega (arith, lt))),
)

-- Tags that were sorted by their keys unite to the union of all, or clash at the least key that has two values.
pub sorted_union : (tags xs : List Pair) → IsPermutation tags xs → IsSortedBy before xs → put_on [] xs ≡ (clash_test tags >> Ok (united tags))
sorted_union tags xs m s =
    walk xs [] tags (λ k v w a b. absurd a) (rises xs (λ i j d le lt. sorted_far before (ranks_by nat_list_cmp_total (λ (t : Pair). t.0)) xs s i j d le lt)) (moved_back tags xs m) (moved tags xs m)

abbrev pub Named : List Pair → Type 0
Named ts = T (list_all (λ (t : Pair). nat_lt 0 (length t.0)) ts)

named_in : (ts : List Pair) (p : Pair) → Named ts → In p ts → T (nat_lt 0 (length p.0))
named_in [] p h has = absurd has
named_in (t ∷ ts) p h (inl e) = subst (λ (x : Pair). T (nat_lt 0 (length x.0))) (sym e) (first_T (nat_lt 0 (length t.0)) _ h)
named_in (t ∷ ts) p h (inr has) = named_in ts p (second_T (nat_lt 0 (length t.0)) _ h) has

in_named : (ts : List Pair) → ((p : Pair) → In p ts → T (nat_lt 0 (length p.0))) → Named ts
in_named [] h = tt
in_named (t ∷ ts) h = both_T _ _ (h t (inl refl)) (in_named ts (λ p has. h p (inr has)))

-- their keys are no less named
pub named_sorted : (xs ys zs : List Pair) → Named xs → IsPermutation xs ys → zs ≡ ys → Named zs
named_sorted xs ys zs h m same = subst Named (sym same) (in_named ys (λ p has. named_in xs p h (moved_back xs ys m p has)))

-- a walk in the order of the keys
pub union_walked : (all raw xs slice start out : List Pair) (found : Option Refusal) → raw ≡ all → IsPermutation raw xs → IsSortedBy before xs → slice ≡ xs → start ≡ [] → put_on start slice ≡ unless found out → unless found out ≡ union_of all
union_walked all raw xs slice start out found is m s same nil read =
    sym read ∙ (λ i. put_on (nil i) (same i)) ∙ sorted_union raw xs m s ∙ ap union_of is

-- what the union tells of the clash
clash_case : (o : Option Refusal) (tags all : List Pair) → Ok tags ≡ (o >> Ok all) → (None ≡ o) × (tags ≡ all)
clash_case None tags all e = (refl, (let i : tags ≡ all = cc in i))
clash_case (Some r) tags all e = cc

pub tags_joined : (tags all : List Pair) → Ok tags ≡ union_of all → (None ≡ clash_test all) × (tags ≡ united all)
tags_joined tags all e = clash_case (clash_test all) tags (united all) e

refused_case : (o : Option Refusal) (r : Refusal) (all : List Pair) → Err r ≡ (o >> Ok all) → Some r ≡ o
refused_case None r all e = cc
refused_case (Some s) r all e = (let i : r ≡ s = cc in ap Some i)

pub tags_refused : (r : Refusal) (all : List Pair) → Err r ≡ union_of all → Some r ≡ clash_test all
tags_refused r all e = refused_case (clash_test all) r (united all) e
