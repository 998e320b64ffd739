-- The steps down depend on what the bases of the keys that fall refer to, and on their versions.
use Rattle.std.proofs.Common.{◌≡◌, ℕ, zero, suc, Bool, true, cond, not, ◌&&◌, ◌||◌, List, [], ◌∷◌, map, Option, Some, None, refl, ◌∙◌, ap, subst, inl, inr}
use Rattle.std.specs.List.{list_any, find}
use Rattle.osm_base.specs.Rank.{is_key}
use Rattle.osm_base.specs.declared.key.Key.{Key}
use Rattle.osm_table.specs.declared.entry.Entry.{Entry}
use Rattle.osm_table.specs.Table.{TableValue, entry_of}
use Rattle.upload_order.specs.declared.change.Change.TheVariants.{Modify, Delete}
use Rattle.upload_order.specs.declared.down.Down.{Down}
use Rattle.upload_order.specs.declared.down.Down.TheVariants.{Clear, Remove}
use Rattle.upload_order.specs.Kinds.{held_refers, is_falling}
use Rattle.upload_order.specs.Fall.{Item, item_uses, is_unused, uses_some, without_item, emptied, fall}
use Rattle.upload_order.specs.Pieces.{fall_next, fall_clear}
use Rattle.upload_order.specs.Plan.{up_of, version_at, later, empty_relation, down_of}
use Rattle.upload_order.proofs.Entries.{IsIn, in_filter, map_in}
use Rattle.upload_order.proofs.Static.{IsDown, no_more, clear, remove}

-- The fall depends on the references among the items alone.
module _ (t u : TableValue) where
  abbrev Alike : List Item → Type 0
  Alike items = (i j : Item) → IsIn i items → IsIn j items → held_refers t i.0 j.0 ≡ held_refers u i.0 j.0

  any_item : (k : Key) (xs : List Item) → ((i : Item) → IsIn i xs → held_refers t i.0 k ≡ held_refers u i.0 k) → list_any (item_uses (held_refers t) k) xs ≡ list_any (item_uses (held_refers u) k) xs
  any_item k [] h = refl
  any_item k (i ∷ is) h = λ x. ((not i.1 && h i (inl refl) x) || any_item k is (λ j n. h j (inr n)) x)

  any_used : (i : Item) (xs : List Item) → ((j : Item) → IsIn j xs → held_refers t i.0 j.0 ≡ held_refers u i.0 j.0) → uses_some (held_refers t) xs i ≡ uses_some (held_refers u) xs i
  any_used i [] h = refl
  any_used i (j ∷ js) h = λ x. ((not i.1 && h j (inl refl) x) || any_used i js (λ l n. h l (inr n)) x)

  find_item : (p q : Item → Bool) (xs : List Item) → ((x : Item) → IsIn x xs → p x ≡ q x) → find p xs ≡ find q xs
  find_item p q [] h = refl
  find_item p q (x ∷ xs) h = λ i. cond (h x (inl refl) i) (Some x) (find_item p q xs (λ y j. h y (inr j)) i)

  alike_drop : (items : List Item) (k : Key) → Alike items → Alike (without_item k items)
  alike_drop items k h i j a b = h i j (in_filter (λ j. not (is_key j.0 k)) items i a).0 (in_filter (λ j. not (is_key j.0 k)) items j b).0

  alike_mark : (items : List Item) (k : Key) → Alike items → Alike (map (emptied k) items)
  alike_mark items k h i j a b =
      let x = map_in (emptied k) items i a in
      let y = map_in (emptied k) items j b in
      subst (λ (p : Key). held_refers t p j.0 ≡ held_refers u p j.0) (ap (λ (z : Item). z.0) x.2) (subst (λ (p : Key). held_refers t x.0.0 p ≡ held_refers u x.0.0 p) (ap (λ (z : Item). z.0) y.2) (h x.0 y.0 x.1 y.1))

  next_same : (o : Option Item) (f g : Key → List Down) (a b : List Down) → ((k : Key) → f k ≡ g k) → a ≡ b → fall_next o f a ≡ fall_next o g b
  next_same None f g a b h e = e
  next_same (Some i) f g a b h e = ap (λ (ds : List Down). Remove i.0 i.1 ∷ ds) (h i.0)

  clear_same : (o : Option Item) (f g : Key → List Down) → ((k : Key) → f k ≡ g k) → fall_clear o f ≡ fall_clear o g
  clear_same None f g h = refl
  clear_same (Some i) f g h = ap (λ (ds : List Down). Clear i.0 ∷ ds) (h i.0)

  pub fall_same : (n : ℕ) (items : List Item) → Alike items → fall (held_refers t) n items ≡ fall (held_refers u) n items
  fall_same zero items h = refl
  fall_same (suc n) items h =
      next_same (find (is_unused (held_refers t) items) items) (λ k. fall (held_refers t) n (without_item k items)) (λ k. fall (held_refers u) n (without_item k items)) _ (fall_clear (find (uses_some (held_refers t) items) items) (λ k. fall (held_refers u) n (map (emptied k) items))) (λ k. fall_same n (without_item k items) (alike_drop items k h))
      (clear_same (find (uses_some (held_refers t) items) items) (λ k. fall (held_refers t) n (map (emptied k) items)) (λ k. fall (held_refers u) n (map (emptied k) items)) (λ k. fall_same n (map (emptied k) items) (alike_mark items k h)))
      ∙ ap (λ o. fall_next o (λ k. fall (held_refers u) n (without_item k items)) (fall_clear (find (uses_some (held_refers t) items) items) (λ k. fall (held_refers u) n (map (emptied k) items)))) (find_item (is_unused (held_refers t) items) (is_unused (held_refers u) items) items (λ x i. ap not (any_item x.0 items (λ j m. h j x m i))))
      ∙ ap (λ o. fall_next (find (is_unused (held_refers u) items) items) (λ k. fall (held_refers u) n (without_item k items)) (fall_clear o (λ k. fall (held_refers u) n (map (emptied k) items)))) (find_item (uses_some (held_refers t) items) (uses_some (held_refers u) items) items (λ x i. any_used x items (λ j m. h x j i m)))

  -- the changes of steps are the same where the falling entries have the same versions
  pub steps_same : ((k : Key) (e : Entry) → entry_of t k ≡ Some e → is_falling e ≡ true → version_at (entry_of t k) ≡ version_at (entry_of u k)) → (left last : Key → Option Bool) (ds : List Down) → IsDown t left ds last → map (down_of t) ds ≡ map (down_of u) ds
  steps_same h left last ds (no_more l) = refl
  steps_same h left last ds (clear l m k es e x y z a) = λ i. Modify k (h k e x y i) empty_relation ∷ steps_same h _ m es a i
  steps_same h left last ds (remove l m k b es e x y z w a) = λ i. Delete k (later b (h k e x y i)) ∷ steps_same h _ m es a i

  pub ups_same : (ks : List Key) → ((k : Key) → IsIn k ks → up_of t k ≡ up_of u k) → map (up_of t) ks ≡ map (up_of u) ks
  ups_same [] h = refl
  ups_same (k ∷ ks) h = λ i. h k (inl refl) i ∷ ups_same ks (λ j l. h j (inr l)) i
