-- After one relation was emptied on the server, the steps down are the rest.
use Rattle.std.proofs.Common.{◌≡◌, ℕ, zero, suc, ◌+◌, ◌≤◌, Bool, true, false, cond, not, ◌&&◌, ◌||◌, List, [], ◌∷◌, map, length, Option, Some, None, refl, sym, ◌∙◌, ap, subst, inl, inr, arith}
use Rattle.std.proofs.lemmas.Bool.{and_parts, not-true, cases_Bool}
use Rattle.std.specs.List.{list_any, find}
use Rattle.std.specs.Option.{option_map}
use Rattle.osm_base.specs.Rank.{is_key}
use Rattle.osm_base.specs.declared.key.Key.{Key}
use Rattle.osm_table.specs.Table.{TableValue, entry_of}
use Rattle.upload_order.specs.declared.change.Change.{Change}
use Rattle.upload_order.specs.declared.change.Change.TheVariants.{Modify, Delete}
use Rattle.upload_order.specs.Plan.{empty_relation, down_of, version_at, later}
use Rattle.upload_order.specs.Kinds.{held_refers}
use Rattle.upload_order.specs.Fall.{Item, item_uses, is_unused, uses_some, without_item, emptied, fall}
use Rattle.upload_order.specs.Pieces.{whole, fall_next, fall_clear}
use Rattle.upload_order.specs.declared.down.Down.TheVariants.{Clear, Remove}
use Rattle.osm_base.proofs.RisingKeys.{one_key, key_itself}
use Rattle.osm_base.proofs.Tests.{never}
use Rattle.upload_order.proofs.Entries.{IsIn, found_in, in_filter, in_map, map_in}
use Rattle.upload_order.proofs.PlanDowns.{weight, lighter_drop, lighter_mark, positive_worth}
use Rattle.upload_order.proofs.Lists.{any_is}
use Rattle.upload_order.proofs.Basics.{with_more}

-- t has k emptied among its items; in u the object of k is empty, and k stands as one that was not emptied
abbrev pub unmarked : Key → Item → Item
unmarked k j = (j.0, cond (is_key j.0 k) false j.1)

module _ (t u : TableValue) (k : Key) (empty : (r : Key) → held_refers u k r ≡ false) (later_k : version_at (entry_of u k) ≡ version_at (entry_of t k) + 1) where
  abbrev g : Item → Item
  g = unmarked k

  pub record Alike (items : List Item) : Type 0 where
    pub held : (i j : Item) → IsIn i items → IsIn j items → is_key i.0 k ≡ false → held_refers t i.0 j.0 ≡ held_refers u i.0 j.0
    pub marked : (i : Item) → IsIn i items → is_key i.0 k ≡ true → i.1 ≡ true
    pub version : (i : Item) → IsIn i items → is_key i.0 k ≡ false → version_at (entry_of t i.0) ≡ version_at (entry_of u i.0)

  use_same : (items : List Item) (a : Alike items) (i j : Item) → IsIn i items → IsIn j items → item_uses (held_refers u) j.0 (g i) ≡ item_uses (held_refers t) j.0 i
  use_same items a i j x y = elim (cases_Bool (is_key i.0 k)) [
    | inl m ↦ (λ l. (not (cond (m l) false i.1) && held_refers u (one_key i.0 k m l) j.0)) ∙ empty j.0 ∙ sym (ap (λ b. not b && held_refers t i.0 j.0) (a.marked i x m))
    | inr m ↦ (λ l. (not (cond (m l) false i.1) && held_refers u i.0 j.0)) ∙ ap (λ b. not i.1 && b) (sym (a.held i j x y m))
  ]

  module _ (p q : Item → Bool) where
    any_mapped : (xs : List Item) → ((x : Item) → IsIn x xs → q (g x) ≡ p x) → list_any q (map g xs) ≡ list_any p xs
    any_mapped [] h = refl
    any_mapped (x ∷ xs) h = λ i. (h x (inl refl) i || any_mapped xs (λ y m. h y (inr m)) i)

    find_mapped : (xs : List Item) → ((x : Item) → IsIn x xs → q (g x) ≡ p x) → find q (map g xs) ≡ option_map g (find p xs)
    find_mapped [] h = refl
    find_mapped (x ∷ xs) h = step (p x) (q (g x)) (h x (inl refl)) (find_mapped xs (λ y m. h y (inr m))) where
      step : (a b : Bool) → b ≡ a → find q (map g xs) ≡ option_map g (find p xs) → cond b (Some (g x)) (find q (map g xs)) ≡ option_map g (cond a (Some x) (find p xs))
      step true true e f = refl
      step true false e f = cc
      step false true e f = cc
      step false false e f = f

  drop_mapped : (j : Key) (xs : List Item) → without_item j (map g xs) ≡ map g (without_item j xs)
  drop_mapped j [] = refl
  drop_mapped j (x ∷ xs) = ap (λ (ys : List Item). cond (not (is_key x.0 j)) (g x ∷ ys) ys) (drop_mapped j xs) ∙ out (not (is_key x.0 j)) where
    out : (b : Bool) → cond b (g x ∷ map g (without_item j xs)) (map g (without_item j xs)) ≡ map g (cond b (x ∷ without_item j xs) (without_item j xs))
    out true = refl
    out false = refl

  mark_mapped : (j : Key) (xs : List Item) → is_key j k ≡ false → map (emptied j) (map g xs) ≡ map g (map (emptied j) xs)
  mark_mapped j [] n = refl
  mark_mapped j (x ∷ xs) n = λ i. (x.0, swap (is_key x.0 j) (is_key x.0 k) x.1 apart i) ∷ mark_mapped j xs n i where
    apart : is_key x.0 j ≡ true → is_key x.0 k ≡ false
    apart h = subst (λ (y : Key). is_key y k ≡ false) (sym (one_key x.0 j h)) n

    swap : (a b c : Bool) → (a ≡ true → b ≡ false) → cond a true (cond b false c) ≡ cond b false (cond a true c)
    swap true true c h = let z = h refl in cc
    swap true false c h = refl
    swap false true c h = refl
    swap false false c h = refl

  alike_drop : (j : Key) (items : List Item) → Alike items → Alike (without_item j items)
  alike_drop j items a = record {
    held = λ x y m n. a.held x y (in_filter (λ i. not (is_key i.0 j)) items x m).0 (in_filter (λ i. not (is_key i.0 j)) items y n).0;
    marked = λ x m. a.marked x (in_filter (λ i. not (is_key i.0 j)) items x m).0;
    version = λ x m. a.version x (in_filter (λ i. not (is_key i.0 j)) items x m).0;
  }

  alike_mark : (j : Key) (items : List Item) → Alike items → Alike (map (emptied j) items)
  alike_mark j items a = record {
    held = λ x y m n h.
        let v = map_in (emptied j) items x m in
        let w = map_in (emptied j) items y n in
        let e : v.0.0 ≡ x.0 = ap (λ (z : Item). z.0) v.2 in
        let f : w.0.0 ≡ y.0 = ap (λ (z : Item). z.0) w.2 in
        (λ i. held_refers t (sym e i) (sym f i)) ∙ a.held v.0 w.0 v.1 w.1 (ap (λ (z : Key). is_key z k) e ∙ h) ∙ (λ i. held_refers u (e i) (f i));
    marked = λ x m h.
        let v = map_in (emptied j) items x m in
        let e : v.0.0 ≡ x.0 = ap (λ (z : Item). z.0) v.2 in
        ap (λ (z : Item). z.1) (sym v.2) ∙ with_more (is_key v.0.0 j) v.0.1 (a.marked v.0 v.1 (ap (λ (z : Key). is_key z k) e ∙ h));
    version = λ x m h.
        let v = map_in (emptied j) items x m in
        let e : v.0.0 ≡ x.0 = ap (λ (z : Item). z.0) v.2 in
        subst (λ (z : Key). version_at (entry_of t z) ≡ version_at (entry_of u z)) e (a.version v.0 v.1 (ap (λ (z : Key). is_key z k) e ∙ h));
  }

  remove_same : (items : List Item) (a : Alike items) (i : Item) → IsIn i items → down_of t (Remove i.0 i.1) ≡ down_of u (Remove i.0 (g i).1)
  remove_same items a i x = elim (cases_Bool (is_key i.0 k)) [
    | inl m ↦ (
        let one : i.0 ≡ k = one_key i.0 k m in
        ap (λ b. let d : Change = Delete i.0 (later b (version_at (entry_of t i.0))) in d) (a.marked i x m)
        ∙ ap (λ y. let d : Change = Delete i.0 (version_at (entry_of t y) + 1) in d) one
        ∙ ap (λ v. let d : Change = Delete i.0 v in d) (sym later_k)
        ∙ ap (λ y. let d : Change = Delete i.0 (version_at (entry_of u y)) in d) (sym one)
        ∙ ap (λ b. let d : Change = Delete i.0 (later (cond b false i.1) (version_at (entry_of u i.0))) in d) (sym m))
    | inr m ↦ (λ l. let d : Change = Delete i.0 (later (cond (sym m l) false i.1) (a.version i x m l)) in d)
  ]

  abbrev Same : ℕ → Type 0
  Same n = (m : ℕ) (items : List Item) → weight items ≤ n → weight (map g items) ≤ m → Alike items → map (down_of t) (fall (held_refers t) n items) ≡ map (down_of u) (fall (held_refers u) m (map g items))

  no_weight : {P : Type 0} (i : Item) (is : List Item) → weight (i ∷ is) ≤ 0 → P
  no_weight i is h = absurd (let z = positive_worth i.1 in omega (arith, h, z))

  empty_fall : (v : TableValue) (n : ℕ) → fall (held_refers v) n [] ≡ []
  empty_fall v zero = refl
  empty_fall v (suc n) = refl

  clear_step : (n m : ℕ) → ((items : List Item) → weight items ≤ n → weight (map g items) ≤ m → Alike items → map (down_of t) (fall (held_refers t) n items) ≡ map (down_of u) (fall (held_refers u) m (map g items)))
      → (items : List Item) → weight items ≤ suc n → weight (map g items) ≤ suc m → Alike items → (o : Option Item) → find (uses_some (held_refers t) items) items ≡ o
      → map (down_of t) (fall_clear o (λ j. fall (held_refers t) n (map (emptied j) items))) ≡ map (down_of u) (fall_clear (option_map g o) (λ j. fall (held_refers u) m (map (emptied j) (map g items))))
  clear_step n m go items h l a None e = refl
  clear_step n m go items h l a (Some i) e =
      let f = found_in (uses_some (held_refers t) items) items i e in
      let j = any_is (λ j. item_uses (held_refers t) j.0 i) items f.1 in
      let whole : i.1 ≡ false = not-true i.1 (and_parts (not i.1) (held_refers t i.0 j.0.0) j.2).0 in
      let away : is_key i.0 k ≡ false = elim (cases_Bool (is_key i.0 k)) [ inl x ↦ never i.1 (a.marked i f.0 x) whole | inr x ↦ x ] in
      let here = in_map g items i f.0 in
      let down : (g i).1 ≡ false = ap (λ b. cond b false i.1) away ∙ whole in
      let less = lighter_mark i.0 items i f.0 refl whole in
      let less2 = lighter_mark i.0 (map g items) (g i) here refl down in
      let swap = mark_mapped i.0 items away in
      let less3 : weight (map g (map (emptied i.0) items)) + 1 ≤ weight (map g items) = subst (λ (xs : List Item). weight xs + 1 ≤ weight (map g items)) swap less2 in
      (λ x. let d : Change = Modify i.0 (a.version i f.0 away x) empty_relation in d ∷ go (map (emptied i.0) items) (omega (arith, h, less)) (omega (arith, l, less3)) (alike_mark i.0 items a) x)
      ∙ ap (λ (xs : List Item). down_of u (Clear i.0) ∷ map (down_of u) (fall (held_refers u) m xs)) (sym swap)

  next_step : (n m : ℕ) → ((items : List Item) → weight items ≤ n → weight (map g items) ≤ m → Alike items → map (down_of t) (fall (held_refers t) n items) ≡ map (down_of u) (fall (held_refers u) m (map g items)))
      → (items : List Item) → weight items ≤ suc n → weight (map g items) ≤ suc m → Alike items → (o p : Option Item) → find (is_unused (held_refers t) items) items ≡ o → find (uses_some (held_refers t) items) items ≡ p
      → map (down_of t) (fall_next o (λ j. fall (held_refers t) n (without_item j items)) (fall_clear p (λ j. fall (held_refers t) n (map (emptied j) items)))) ≡ map (down_of u) (fall_next (option_map g o) (λ j. fall (held_refers u) m (without_item j (map g items))) (fall_clear (option_map g p) (λ j. fall (held_refers u) m (map (emptied j) (map g items)))))
  next_step n m go items h l a None p e r = clear_step n m go items h l a p r
  next_step n m go items h l a (Some i) p e r =
      let f = found_in (is_unused (held_refers t) items) items i e in
      let self = ap not (key_itself i.0) in
      let less = lighter_drop (λ j. not (is_key j.0 i.0)) items i f.0 self in
      let less2 = lighter_drop (λ j. not (is_key j.0 i.0)) (map g items) (g i) (in_map g items i f.0) self in
      let swap = drop_mapped i.0 items in
      let less3 : weight (map g (without_item i.0 items)) + 1 ≤ weight (map g items) = subst (λ (xs : List Item). weight xs + 1 ≤ weight (map g items)) swap less2 in
      (λ x. remove_same items a i f.0 x ∷ go (without_item i.0 items) (omega (arith, h, less)) (omega (arith, l, less3)) (alike_drop i.0 items a) x)
      ∙ ap (λ (xs : List Item). down_of u (Remove i.0 (g i).1) ∷ map (down_of u) (fall (held_refers u) m xs)) (sym swap)

  same_step : (n m : ℕ) → ((items : List Item) → weight items ≤ n → weight (map g items) ≤ m → Alike items → map (down_of t) (fall (held_refers t) n items) ≡ map (down_of u) (fall (held_refers u) m (map g items))) → (items : List Item) → weight items ≤ suc n → weight (map g items) ≤ suc m → Alike items → map (down_of t) (fall (held_refers t) (suc n) items) ≡ map (down_of u) (fall (held_refers u) (suc m) (map g items))
  same_step n m go items h l a =
      let unused : find (is_unused (held_refers u) (map g items)) (map g items) ≡ option_map g (find (is_unused (held_refers t) items) items) =
      find_mapped (is_unused (held_refers t) items) (is_unused (held_refers u) (map g items)) items (λ i x. ap not (any_mapped (item_uses (held_refers t) i.0) (item_uses (held_refers u) i.0) items (λ j y. use_same items a j i y x))) in
      let used : find (uses_some (held_refers u) (map g items)) (map g items) ≡ option_map g (find (uses_some (held_refers t) items) items) =
      find_mapped (uses_some (held_refers t) items) (uses_some (held_refers u) (map g items)) items (λ i x. any_mapped (λ j. item_uses (held_refers t) j.0 i) (λ j. item_uses (held_refers u) j.0 (g i)) items (λ j y. use_same items a i j x y)) in
      next_step n m go items h l a (find (is_unused (held_refers t) items) items) (find (uses_some (held_refers t) items) items) refl refl
      ∙ (λ x. map (down_of u) (fall_next (sym unused x) (λ j. fall (held_refers u) m (without_item j (map g items))) (fall_clear (sym used x) (λ j. fall (held_refers u) m (map (emptied j) (map g items))))))

  -- What falls after k was emptied falls in the same way where k is empty from the start.
  pub cleared_same : (n : ℕ) → Same n
  cleared_same zero m [] h l a = ap (map (down_of u)) (sym (empty_fall u m))
  cleared_same zero m (i ∷ is) h l a = no_weight i is h
  cleared_same (suc n) zero [] h l a = refl
  cleared_same (suc n) zero (i ∷ is) h l a = no_weight (g i) (map g is) l
  cleared_same (suc n) (suc m) items h l a = same_step n m (λ is x y z. cleared_same n m is x y z) items h l a

pub whole_weight : (ks : List Key) → weight (map whole ks) ≡ length ks + length ks
whole_weight [] = refl
whole_weight (k ∷ ks) = omega (arith, whole_weight ks)
