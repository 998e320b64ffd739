-- The plan after a relation was emptied is the rest of the plan.
use Rattle.std.proofs.Common.{◌≡◌, ℕ, zero, suc, ◌+◌, ◌≤◌, Bool, true, false, cond, not, List, [], ◌∷◌, ◌++◌, map, length, Option, Some, None, refl, sym, ◌∙◌, ap, subst, ◌⊎◌, inl, inr, arith}
use Rattle.std.proofs.lemmas.Bool.{and_parts, not-true, cases_Bool}
use Rattle.std.specs.List.{find}
use Rattle.osm_base.specs.declared.key.Kind.TheVariants as kind
use Rattle.osm_base.specs.Rank.{is_key}
use Rattle.osm_base.specs.declared.key.Kind.{Kind}
use Rattle.osm_base.specs.declared.key.Key.{Key}
use Rattle.osm_table.specs.declared.entry.Entry.{Entry}
use Rattle.osm_table.specs.declared.entry.Entry.TheVariants.{Known}
use Rattle.osm_table.specs.declared.entry.Base.TheVariants.{Live}
use Rattle.osm_table.specs.Table.{TableValue, entry_of, with_entry, version_of}
use Rattle.upload_order.specs.declared.change.Change.{Change}
use Rattle.upload_order.specs.declared.change.Change.TheVariants.{Delete}
use Rattle.upload_order.specs.Plan.{empty_relation, plain_removes, downs, down_of, version_at}
use Rattle.upload_order.specs.Bases.{base_in}
use Rattle.upload_order.specs.Kinds.{is_falling, held_refers, held_at, content_refers}
use Rattle.osm_base.specs.Meta.{empty_meta}
use Rattle.upload_order.proofs.PlanUps.{kind_is, kind_self}
use Rattle.upload_order.proofs.Where.{falling_of, falling_both, keys_where, falling_items, in_where}
use Rattle.upload_order.specs.Fall.{Item, is_unused, uses_some, item_uses, without_item, emptied, fall, falls}
use Rattle.upload_order.specs.Pieces.{fall_next, fall_clear}
use Rattle.upload_order.specs.declared.down.Down.{Down}
use Rattle.upload_order.specs.declared.down.Down.TheVariants.{Clear, Remove}
use Rattle.osm_base.proofs.RisingKeys.{one_key, key_itself}
use Rattle.osm_base.proofs.Tests.{never}
use Rattle.upload_order.proofs.Basics.{both, at_key_put, at_other}
use Rattle.upload_order.proofs.Entries.{IsIn, found_in, map_in}
use Rattle.upload_order.proofs.Lists.{any_is}
use Rattle.upload_order.proofs.PlanDowns.{weight, lighter_mark}
use Rattle.upload_order.proofs.Downs.{version_case}
use Rattle.placeholder.proofs.Rest.{same_where}
use Rattle.placeholder.proofs.Cleared.{unmarked, Alike, cleared_same, whole_weight}
use Rattle.placeholder.proofs.Parts.{falling_alike}

abbrev cleared_key : Key → List Down → Key
cleared_key d [] = d
cleared_key d (Clear k ∷ ds) = k
cleared_key d (Remove k b ∷ ds) = d

abbrev pub rest_of : List Down → List Down
rest_of [] = []
rest_of (d ∷ ds) = ds

abbrev pub is_clear : List Down → Bool
is_clear [] = false
is_clear (Clear k ∷ ds) = true
is_clear (Remove k b ∷ ds) = false

pub front : (xs ys : List Down) (k : Key) (ds : List Down) → xs ++ ys ≡ Clear k ∷ ds → ((xs ≡ []) × (ys ≡ Clear k ∷ ds)) ⊎ ((zs : List Down) × (xs ≡ Clear k ∷ zs) × (zs ++ ys ≡ ds))
front [] ys k ds e = inl (refl, e)
front (Clear j ∷ xs) ys k ds e = inr (xs, (λ i. Clear (cleared_key j (e i)) ∷ xs), ap rest_of e)
front (Remove j b ∷ xs) ys k ds e = let f = ap is_clear e in cc

pub no_clear : (xs ys : List Key) (k : Key) (ds : List Down) → plain_removes xs ++ plain_removes ys ≡ Clear k ∷ ds → ⊥
no_clear [] [] k ds e = let f = ap is_clear e in cc
no_clear [] (y ∷ ys) k ds e = let f = ap is_clear e in cc
no_clear (x ∷ xs) ys k ds e = let f = ap is_clear e in cc

pub map_joined : (f : Down → Change) (xs ys : List Down) → map f (xs ++ ys) ≡ map f xs ++ map f ys
map_joined f [] ys = refl
map_joined f (x ∷ xs) ys = ap (λ (cs : List Change). f x ∷ cs) (map_joined f xs ys)

-- where a fall begins with a clear
pub starts : (t : TableValue) (n : ℕ) (items : List Item) (k : Key) (zs : List Down) → fall (held_refers t) n items ≡ Clear k ∷ zs → (m : ℕ) × (n ≡ suc m) × ((i : Item) × (find (uses_some (held_refers t) items) items ≡ Some i) × (i.0 ≡ k)) × (zs ≡ fall (held_refers t) m (map (emptied k) items))
starts t zero items k zs e = let f = ap is_clear e in cc
starts t (suc m) items k zs e = by_found (find (is_unused (held_refers t) items) items) (find (uses_some (held_refers t) items) items) refl e where
  by_found : (o p : Option Item) → find (uses_some (held_refers t) items) items ≡ p → fall_next o (λ k. fall (held_refers t) m (without_item k items)) (fall_clear p (λ k. fall (held_refers t) m (map (emptied k) items))) ≡ Clear k ∷ zs → (n : ℕ) × (suc m ≡ suc n) × ((i : Item) × (find (uses_some (held_refers t) items) items ≡ Some i) × (i.0 ≡ k)) × (zs ≡ fall (held_refers t) n (map (emptied k) items))
  by_found (Some i) p g e = let f = ap is_clear e in cc
  by_found None None g e = let f = ap is_clear e in cc
  by_found None (Some i) g e =
      let one : i.0 ≡ k = ap (cleared_key i.0) e in
      (m, refl, (i, g, one), sym (ap rest_of e) ∙ ap (λ (x : Key). fall (held_refers t) m (map (emptied x) items)) one)

module _ (t : TableValue) (k : Key) (e : Entry) (entry : entry_of t k ≡ Some e) (down : is_falling e ≡ true) (is_relation : k.kind ≡ kind.Relation) where
  abbrev e2 : Entry
  e2 = Known (Live (version_of (base_in e) + 1) empty_relation empty_meta) None None

  abbrev u : TableValue
  u = with_entry t k e2

  at_u : (j : Key) → is_key j k ≡ true → entry_of u j ≡ Some e2
  at_u j i = at_key_put t.entries k j e2 i

  off_u : (j : Key) → is_key j k ≡ false → entry_of u j ≡ entry_of t j
  off_u j i = at_other t.entries k j e2 i

  still_falls : is_falling e ≡ is_falling e2
  still_falls = down

  falling : (kd : Kind) → keys_where t (falling_of kd) ≡ keys_where u (falling_of kd)
  falling kd = same_where t u (falling_of kd) (falling_of kd)
      (λ j f h g. elim (cases_Bool (is_key j k)) [
        | inl i ↦ (e2, at_u j i, sym (falling_alike kd j.kind f e2 (ap is_falling (both f e (entry_of t k) (ap (entry_of t) (sym (one_key j k i)) ∙ h) entry) ∙ still_falls)) ∙ g)
        | inr i ↦ (f, off_u j i ∙ h, g)
      ])
      (λ j f h g. elim (cases_Bool (is_key j k)) [
        | inl i ↦ (e, ap (entry_of t) (one_key j k i) ∙ entry, falling_alike kd j.kind e f (still_falls ∙ ap is_falling (both e2 f (entry_of u j) (at_u j i) h)) ∙ g)
        | inr i ↦ (f, sym (off_u j i) ∙ h, g)
      ])

  items_again : (ks : List Key) → map (unmarked k) (map (emptied k) (map (λ j. let x : Item = (j, false) in x) ks)) ≡ map (λ j. let x : Item = (j, false) in x) ks
  items_again [] = refl
  items_again (j ∷ js) = λ i. (j, back (is_key j k) i) ∷ items_again js i where
    back : (b : Bool) → cond b false (cond b true false) ≡ false
    back true = refl
    back false = refl

  kept : (kd : Kind) → kind_is kd kind.Relation ≡ false → (x : Key) → IsIn x (keys_where t (falling_of kd)) → entry_of t x ≡ entry_of u x
  kept kd n x i =
      let y = in_where t (falling_of kd) x i in
      let z = (falling_both kd x.kind y.0 y.2).0 in
      sym (off_u x (apart x z (cases_Bool (is_key x k)))) where
        apart : (x : Key) → x.kind ≡ kd → ((is_key x k ≡ true) ⊎ (is_key x k ≡ false)) → is_key x k ≡ false
        apart x z (inl h) = never (kind_is kd kind.Relation) (subst (λ (y : Kind). kind_is kd y ≡ true) (sym z ∙ ap (λ (y : Key). y.kind) (one_key x k h) ∙ is_relation) (kind_self kd)) n
        apart x z (inr h) = h

  removes_same : (xs : List Key) → ((x : Key) → IsIn x xs → entry_of t x ≡ entry_of u x) → map (down_of t) (plain_removes xs) ≡ map (down_of u) (plain_removes xs)
  removes_same [] h = refl
  removes_same (x ∷ xs) h = λ i. Delete x (version_at (h x (inl refl) i)) ∷ removes_same xs (λ y m. h y (inr m)) i

  empty_now : (r : Key) → held_refers u k r ≡ false
  empty_now r = ap (λ o. content_refers (held_at o) r) (at_u k (key_itself k))

  later_now : version_at (entry_of u k) ≡ version_at (entry_of t k) + 1
  later_now = ap version_at (at_u k (key_itself k)) ∙ ap (λ v. v + 1) (sym (version_case e) ∙ sym (ap version_at entry))

  alike : Alike t u k empty_now later_now (map (emptied k) (falling_items t))
  alike = record {
    held = λ i j x y n. ap (λ o. content_refers (held_at o) j.0) (sym (off_u i.0 n));
    marked = λ i x h. let v = map_in (emptied k) (falling_items t) i x in ap (λ (y : Item). y.1) (sym v.2) ∙ ap (λ b. cond b true v.0.1) (ap (λ (y : Item). is_key y.0 k) v.2 ∙ h);
    version = λ i x n. ap version_at (sym (off_u i.0 n));
  }

  abbrev both_lengths : ℕ
  both_lengths = length (keys_where t (falling_of kind.Relation)) + length (keys_where t (falling_of kind.Relation))

  -- The steps down of u are the rest.
  pub downs_rest : (ds : List Down) → downs t ≡ Clear k ∷ ds → map (down_of u) (downs u) ≡ map (down_of t) ds
  downs_rest ds head =
      let rest = plain_removes (keys_where t (falling_of kind.Way)) ++ plain_removes (keys_where t (falling_of kind.Node)) in
      elim (front (fall (held_refers t) both_lengths (falling_items t)) rest k ds head) [
        | inl a ↦ absurd (no_clear (keys_where t (falling_of kind.Way)) (keys_where t (falling_of kind.Node)) k ds a.1)
        | inr a ↦ (
            let b = starts t both_lengths (falling_items t) k a.0 a.1 in
            let f = found_in (uses_some (held_refers t) (falling_items t)) (falling_items t) b.2.0 b.2.1 in
            let j = any_is (λ j. item_uses (held_refers t) j.0 b.2.0) (falling_items t) f.1 in
            let whole : b.2.0.1 ≡ false = not-true b.2.0.1 (and_parts (not b.2.0.1) (held_refers t b.2.0.0 j.0.0) j.2).0 in
            let less = lighter_mark k (falling_items t) b.2.0 f.0 b.2.2 whole in
            let w = whole_weight (keys_where t (falling_of kind.Relation)) in
            let c = b.1 in
            let back = items_again (keys_where t (falling_of kind.Relation)) in
            let sim = cleared_same t u k empty_now later_now b.0 both_lengths (map (emptied k) (falling_items t)) (omega (arith, less, w, c)) (subst (λ (xs : List Item). weight xs ≤ both_lengths) (sym back) (omega (arith, w))) alike in
            let whole_fall : map (down_of t) a.0 ≡ map (down_of u) (fall (held_refers u) both_lengths (falling_items t)) = ap (map (down_of t)) b.3 ∙ sim ∙ ap (λ (xs : List Item). map (down_of u) (fall (held_refers u) both_lengths xs)) back in
            let low : map (down_of t) rest ≡ map (down_of u) rest = map_joined (down_of t) (plain_removes (keys_where t (falling_of kind.Way))) (plain_removes (keys_where t (falling_of kind.Node))) ∙ (λ i. removes_same (keys_where t (falling_of kind.Way)) (kept kind.Way refl) i ++ removes_same (keys_where t (falling_of kind.Node)) (kept kind.Node refl) i) ∙ sym (map_joined (down_of u) (plain_removes (keys_where t (falling_of kind.Way))) (plain_removes (keys_where t (falling_of kind.Node)))) in
            sym (
            ap (map (down_of t)) (sym a.2)
            ∙ map_joined (down_of t) a.0 rest
            ∙ (λ i. whole_fall i ++ low i)
            ∙ sym (map_joined (down_of u) (fall (held_refers u) both_lengths (falling_items t)) rest)
            ∙ (λ i. map (down_of u) (falls (held_refers u) (falling kind.Relation i) ++ (plain_removes (falling kind.Way i) ++ plain_removes (falling kind.Node i))))))
      ]
