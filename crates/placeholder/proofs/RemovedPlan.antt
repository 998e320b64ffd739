-- The plan after an object was deleted is the rest of the plan.
use Rattle.std.proofs.Common.{◌≡◌, ℕ, zero, suc, ◌+◌, ◌≤◌, Bool, true, false, cond, not, List, [], ◌∷◌, ◌++◌, map, length, Option, Some, None, refl, sym, ◌∙◌, ap, subst, ◌⊎◌, inl, inr, arith}
use Rattle.std.proofs.lemmas.Bool.{cases_Bool}
use Rattle.std.specs.List.{find}
use Rattle.osm_base.specs.Rank.{is_key}
use Rattle.osm_base.specs.Meta.{empty_meta}
use Rattle.osm_base.specs.declared.key.Kind.{Kind}
use Rattle.osm_base.specs.declared.key.Kind.TheVariants as kind
use Rattle.osm_base.specs.declared.key.Key.{Key}
use Rattle.osm_base.proofs.RisingKeys.{key_itself}
use Rattle.osm_base.proofs.Tests.{never}
use Rattle.osm_table.specs.declared.entry.Entry.{Entry}
use Rattle.osm_table.specs.declared.entry.Entry.TheVariants.{Known}
use Rattle.osm_table.specs.declared.entry.Base.TheVariants.{Gone}
use Rattle.osm_table.specs.Table.{TableValue, entry_of, with_entry, version_of}
use Rattle.upload_order.specs.declared.change.Change.TheVariants.{Delete}
use Rattle.upload_order.specs.declared.down.Down.{Down}
use Rattle.upload_order.specs.declared.down.Down.TheVariants.{Clear, Remove}
use Rattle.upload_order.specs.Bases.{base_in}
use Rattle.upload_order.specs.Kinds.{is_falling, held_refers, held_at, content_refers}
use Rattle.upload_order.specs.Order.{without}
use Rattle.upload_order.specs.Fall.{Item, is_unused, uses_some, without_item, emptied, fall}
use Rattle.upload_order.specs.Pieces.{whole, fall_next, fall_clear}
use Rattle.upload_order.specs.Plan.{plain_removes, downs, down_of, version_at}
use Rattle.upload_order.proofs.Basics.{key_same, both, at_key_put, at_other}
use Rattle.upload_order.proofs.Entries.{IsIn, found_in, map_in}
use Rattle.upload_order.proofs.Lists.{AreDistinct}
use Rattle.upload_order.proofs.PlanUps.{kind_is, kind_self}
use Rattle.upload_order.proofs.PlanDowns.{weight, lighter_drop}
use Rattle.upload_order.proofs.Where.{keys_where, falling_of, falling_items, falling_both, distinct_where, in_where}
use Rattle.upload_order.proofs.Downs.{version_case}
use Rattle.placeholder.proofs.Cleared.{unmarked, Alike, cleared_same, whole_weight}
use Rattle.placeholder.proofs.ClearedPlan.{map_joined, rest_of}
use Rattle.placeholder.proofs.Rest.{without_where, without_absent, without_head}

abbrev removed_key : Key → List Down → Key
removed_key d [] = d
removed_key d (Clear k ∷ ds) = d
removed_key d (Remove k b ∷ ds) = k

abbrev removed_flag : Bool → List Down → Bool
removed_flag d [] = d
removed_flag d (Clear k ∷ ds) = d
removed_flag d (Remove k b ∷ ds) = b

abbrev is_remove : List Down → Bool
is_remove [] = false
is_remove (Clear k ∷ ds) = false
is_remove (Remove k b ∷ ds) = true

front : (xs ys : List Down) (k : Key) (b : Bool) (ds : List Down) → xs ++ ys ≡ Remove k b ∷ ds → ((xs ≡ []) × (ys ≡ Remove k b ∷ ds)) ⊎ ((zs : List Down) × (xs ≡ Remove k b ∷ zs) × (zs ++ ys ≡ ds))
front [] ys k b ds e = inl (refl, e)
front (Clear j ∷ xs) ys k b ds e = let f = ap is_remove e in cc
front (Remove j c ∷ xs) ys k b ds e = inr (xs, (λ i. Remove (removed_key j (e i)) (removed_flag c (e i)) ∷ xs), ap rest_of e)

removes_front : (xs ys : List Key) (k : Key) (b : Bool) (ds : List Down) → plain_removes xs ++ plain_removes ys ≡ Remove k b ∷ ds → ((zs : List Key) × (xs ≡ k ∷ zs) × (plain_removes zs ++ plain_removes ys ≡ ds)) ⊎ ((xs ≡ []) × ((zs : List Key) × (ys ≡ k ∷ zs) × (plain_removes zs ≡ ds)))
removes_front [] [] k b ds e = let f = ap is_remove e in cc
removes_front [] (y ∷ ys) k b ds e = inr (refl, (ys, ap (λ (x : Key). x ∷ ys) (ap (removed_key y) e), ap rest_of e))
removes_front (x ∷ xs) ys k b ds e = inl (xs, ap (λ (z : Key). z ∷ xs) (ap (removed_key x) e), ap rest_of e)

-- where a fall begins with a deletion
starts : (t : TableValue) (n : ℕ) (items : List Item) (k : Key) (b : Bool) (zs : List Down) → fall (held_refers t) n items ≡ Remove k b ∷ zs → (m : ℕ) × (n ≡ suc m) × ((i : Item) × (find (is_unused (held_refers t) items) items ≡ Some i) × (i.0 ≡ k)) × (zs ≡ fall (held_refers t) m (without_item k items))
starts t zero items k b zs e = let f = ap is_remove e in cc
starts t (suc m) items k b zs e = by_found (find (is_unused (held_refers t) items) items) (find (uses_some (held_refers t) items) items) refl e where
  by_found : (o p : Option Item) → find (is_unused (held_refers t) items) items ≡ o → fall_next o (λ k. fall (held_refers t) m (without_item k items)) (fall_clear p (λ k. fall (held_refers t) m (map (emptied k) items))) ≡ Remove k b ∷ zs → (n : ℕ) × (suc m ≡ suc n) × ((i : Item) × (find (is_unused (held_refers t) items) items ≡ Some i) × (i.0 ≡ k)) × (zs ≡ fall (held_refers t) n (without_item k items))
  by_found None None g e = let f = ap is_remove e in cc
  by_found None (Some i) g e = let f = ap is_remove e in cc
  by_found (Some i) p g e =
      let one : i.0 ≡ k = ap (removed_key i.0) e in
      (m, refl, (i, g, one), sym (ap rest_of e) ∙ ap (λ (x : Key). fall (held_refers t) m (without_item x items)) one)

module _ (t : TableValue) (k : Key) (e : Entry) (entry : entry_of t k ≡ Some e) (down : is_falling e ≡ true) where
  abbrev e2 : Entry
  e2 = Known (Gone (version_of (base_in e) + 1) empty_meta) None None

  abbrev u : TableValue
  u = with_entry t k e2

  at_u : (j : Key) → is_key j k ≡ true → entry_of u j ≡ Some e2
  at_u j i = at_key_put t.entries k j e2 i

  off_u : (j : Key) → is_key j k ≡ false → entry_of u j ≡ entry_of t j
  off_u j i = at_other t.entries k j e2 i

  not_there : (kd : Kind) (j : Key) (f : Entry) → entry_of u j ≡ Some f → falling_of kd j f ≡ true → is_key j k ≡ false
  not_there kd j f h g = elim (cases_Bool (is_key j k)) [
    | inl i ↦ never (is_falling f) (falling_both kd j.kind f g).1 (ap is_falling (both f e2 (entry_of u j) h (at_u j i)))
    | inr i ↦ i
  ]

  falling : (kd : Kind) → without k (keys_where t (falling_of kd)) ≡ keys_where u (falling_of kd)
  falling kd = without_where t u k (falling_of kd) (falling_of kd) (λ j f n h g. (f, off_u j n ∙ h, g)) (λ j f h g. let n = not_there kd j f h g in (n, (f, sym (off_u j n) ∙ h, g)))

  abbrev mk : Key → Item
  mk j = whole j

  mk_without : (ks : List Key) → without_item k (map mk ks) ≡ map mk (without k ks)
  mk_without [] = refl
  mk_without (j ∷ js) = ap (λ (xs : List Item). cond (not (is_key j k)) (mk j ∷ xs) xs) (mk_without js) ∙ out (not (is_key j k)) where
    out : (b : Bool) → cond b (mk j ∷ map mk (without k js)) (map mk (without k js)) ≡ map mk (cond b (j ∷ without k js) (without k js))
    out true = refl
    out false = refl

  items_u : without_item k (falling_items t) ≡ falling_items u
  items_u = mk_without (keys_where t (falling_of kind.Relation)) ∙ ap (map mk) (falling kind.Relation)

  unmarked_items : (ks : List Key) → map (unmarked k) (map mk ks) ≡ map mk ks
  unmarked_items [] = refl
  unmarked_items (j ∷ js) = λ i. (j, same (is_key j k) i) ∷ unmarked_items js i where
    same : (b : Bool) → cond b false false ≡ false
    same true = refl
    same false = refl

  empty_now : (r : Key) → held_refers u k r ≡ false
  empty_now r = ap (λ o. content_refers (held_at o) r) (at_u k (key_itself k))

  later_now : version_at (entry_of u k) ≡ version_at (entry_of t k) + 1
  later_now = ap version_at (at_u k (key_itself k)) ∙ ap (λ v. v + 1) (sym (version_case e) ∙ sym (ap version_at entry))

  item_apart : (i : Item) → IsIn i (falling_items u) → is_key i.0 k ≡ false
  item_apart i x =
      let m = map_in mk (keys_where u (falling_of kind.Relation)) i x in
      let y = in_where u (falling_of kind.Relation) m.0 m.1 in
      ap (λ (z : Item). is_key z.0 k) (sym m.2) ∙ not_there kind.Relation m.0 y.0 y.1 y.2

  alike : Alike t u k empty_now later_now (falling_items u)
  alike = record {
    held = λ i j x y n. ap (λ o. content_refers (held_at o) j.0) (sym (off_u i.0 n));
    marked = λ i x h. never (is_key i.0 k) h (item_apart i x);
    version = λ i x n. ap version_at (sym (off_u i.0 n));
  }

  -- the fall of what is left, in both tables
  fall_both : (n : ℕ) → weight (falling_items u) ≤ n → map (down_of t) (fall (held_refers t) n (falling_items u)) ≡ map (down_of u) (fall (held_refers u) (length (keys_where u (falling_of kind.Relation)) + length (keys_where u (falling_of kind.Relation))) (falling_items u))
  fall_both n h =
      let w = whole_weight (keys_where u (falling_of kind.Relation)) in
      let one = unmarked_items (keys_where u (falling_of kind.Relation)) in
      cleared_same t u k empty_now later_now n (length (keys_where u (falling_of kind.Relation)) + length (keys_where u (falling_of kind.Relation))) (falling_items u) h (subst (λ (xs : List Item). weight xs ≤ length (keys_where u (falling_of kind.Relation)) + length (keys_where u (falling_of kind.Relation))) (sym one) (omega (arith, w))) alike
      ∙ ap (λ (xs : List Item). map (down_of u) (fall (held_refers u) (length (keys_where u (falling_of kind.Relation)) + length (keys_where u (falling_of kind.Relation))) xs)) one

  removes_same : (kd : Kind) (xs : List Key) → ((x : Key) → IsIn x xs → IsIn x (keys_where u (falling_of kd))) → map (down_of t) (plain_removes xs) ≡ map (down_of u) (plain_removes xs)
  removes_same kd [] h = refl
  removes_same kd (x ∷ xs) h = λ i. Delete x (version_at (sym (off_u x (let y = in_where u (falling_of kd) x (h x (inl refl)) in not_there kd x y.0 y.1 y.2)) i)) ∷ removes_same kd xs (λ y m. h y (inr m)) i

  abbrev low : List Down
  low = plain_removes (keys_where u (falling_of kind.Way)) ++ plain_removes (keys_where u (falling_of kind.Node))

  low_same : map (down_of t) low ≡ map (down_of u) low
  low_same = map_joined (down_of t) (plain_removes (keys_where u (falling_of kind.Way))) (plain_removes (keys_where u (falling_of kind.Node))) ∙ (λ i. removes_same kind.Way (keys_where u (falling_of kind.Way)) (λ x m. m) i ++ removes_same kind.Node (keys_where u (falling_of kind.Node)) (λ x m. m) i) ∙ sym (map_joined (down_of u) (plain_removes (keys_where u (falling_of kind.Way))) (plain_removes (keys_where u (falling_of kind.Node))))

  assemble : (zs ds : List Down) → zs ++ low ≡ ds → map (down_of t) zs ≡ map (down_of u) (fall (held_refers u) (length (keys_where u (falling_of kind.Relation)) + length (keys_where u (falling_of kind.Relation))) (falling_items u)) → map (down_of u) (downs u) ≡ map (down_of t) ds
  assemble zs ds e h =
      map_joined (down_of u) (fall (held_refers u) (length (keys_where u (falling_of kind.Relation)) + length (keys_where u (falling_of kind.Relation))) (falling_items u)) low
      ∙ (λ i. sym h i ++ sym low_same i)
      ∙ sym (map_joined (down_of t) zs low)
      ∙ ap (map (down_of t)) e

  kind_at : (kd : Kind) → IsIn k (keys_where t (falling_of kd)) → k.kind ≡ kd
  kind_at kd i = let y = in_where t (falling_of kd) k i in (falling_both kd k.kind y.0 y.2).0

  -- in the lists of other kinds k isn't
  other_kind : (a b : Kind) → k.kind ≡ a → kind_is a b ≡ false → keys_where t (falling_of b) ≡ keys_where u (falling_of b)
  other_kind a b h n = sym (without_absent k (keys_where t (falling_of b)) (λ i. never (kind_is a b) (subst (λ (x : Kind). kind_is a x ≡ true) (sym h ∙ kind_at b i) (kind_self a)) n)) ∙ falling b

  head_in : (kd : Kind) (zs : List Key) → keys_where t (falling_of kd) ≡ k ∷ zs → (k.kind ≡ kd) × (zs ≡ keys_where u (falling_of kd))
  head_in kd zs e =
      let d = subst AreDistinct e (distinct_where t (falling_of kd)) in
      (kind_at kd (subst (λ (xs : List Key). IsIn k xs) (sym e) (inl refl)), sym (without_head k zs d.0) ∙ ap (without k) (sym e) ∙ falling kd)

  -- The steps down of u are the rest.
  pub downs_rest : (b : Bool) (ds : List Down) → downs t ≡ Remove k b ∷ ds → map (down_of u) (downs u) ≡ map (down_of t) ds
  downs_rest b ds head =
      let ways = keys_where t (falling_of kind.Way) in
      let nodes = keys_where t (falling_of kind.Node) in
      let n = length (keys_where t (falling_of kind.Relation)) + length (keys_where t (falling_of kind.Relation)) in
      let w = whole_weight (keys_where t (falling_of kind.Relation)) in
      elim (front (fall (held_refers t) n (falling_items t)) (plain_removes ways ++ plain_removes nodes) k b ds head) [
        | inr a ↦ (
            let x = starts t n (falling_items t) k b a.0 a.1 in
            let f = found_in (is_unused (held_refers t) (falling_items t)) (falling_items t) x.2.0 x.2.1 in
            let m = map_in mk (keys_where t (falling_of kind.Relation)) x.2.0 f.0 in
            let kd : k.kind ≡ kind.Relation = kind_at kind.Relation (subst (λ (y : Key). IsIn y (keys_where t (falling_of kind.Relation))) (ap (λ (z : Item). z.0) m.2 ∙ x.2.2) m.1) in
            let less = lighter_drop (λ j. not (is_key j.0 k)) (falling_items t) x.2.0 f.0 (ap not (key_same x.2.0.0 k x.2.2)) in
            let c = x.1 in
            let fits : weight (falling_items u) ≤ x.0 = subst (λ (xs : List Item). weight xs ≤ x.0) items_u (omega (arith, less, w, c)) in
            assemble a.0 ds ((λ i. a.0 ++ (plain_removes (sym (other_kind kind.Relation kind.Way kd refl) i) ++ plain_removes (sym (other_kind kind.Relation kind.Node kd refl) i))) ∙ a.2)
            (ap (map (down_of t)) (x.3 ∙ ap (fall (held_refers t) x.0) items_u) ∙ fall_both x.0 fits))
        | inl a ↦ (
            elim (removes_front ways nodes k b ds a.1) [
              | inl c ↦ (
                  let h = head_in kind.Way c.0 c.1 in
                  let rels = ap (map mk) (other_kind kind.Way kind.Relation h.0 refl) in
                  assemble [] ds ((λ i. plain_removes (sym h.1 i) ++ plain_removes (sym (other_kind kind.Way kind.Node h.0 refl) i)) ∙ c.2)
                  (ap (map (down_of t)) (sym a.0 ∙ ap (fall (held_refers t) n) rels) ∙ fall_both n (subst (λ (xs : List Item). weight xs ≤ n) rels (omega (arith, w)))))
              | inr c ↦ (
                  let h = head_in kind.Node c.1.0 c.1.1 in
                  let rels = ap (map mk) (other_kind kind.Node kind.Relation h.0 refl) in
                  assemble [] ds ((λ i. plain_removes ((sym (other_kind kind.Node kind.Way h.0 refl) ∙ c.0) i) ++ plain_removes (sym h.1 i)) ∙ c.1.2)
                  (ap (map (down_of t)) (sym a.0 ∙ ap (fall (held_refers t) n) rels) ∙ fall_both n (subst (λ (xs : List Item). weight xs ≤ n) rels (omega (arith, w)))))
            ])
      ]
