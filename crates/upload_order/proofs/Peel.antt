-- The order of what is created and changed is a good one.
use Rattle.std.proofs.Common.{◌≡◌, ℕ, zero, suc, ◌≤◌, Bool, true, false, cond, not, List, [], ◌∷◌, ◌++◌, length, Option, Some, None, refl, sym, ◌∙◌, ap, subst, ◌⊎◌, inl, inr, arith}
use Rattle.std.proofs.lemmas.Bool.{not-true, not-false, not_from_true, cases_Bool}
use Rattle.std.specs.List.{list_any, find}
use Rattle.osm_base.specs.Rank.{is_key}
use Rattle.osm_base.specs.Content.{refers}
use Rattle.osm_base.specs.declared.key.Key.{Key}
use Rattle.osm_base.specs.declared.content.Content.{Content}
use Rattle.osm_table.specs.declared.entry.Entry.{Entry}
use Rattle.osm_table.specs.Table.{TableValue}
use Rattle.upload_order.specs.Kinds.{mine_refers, content_refers, is_rising, at_key}
use Rattle.dataset.specs.Exact.{mine_at}
use Rattle.upload_order.specs.Order.{without, is_ready, peel}
use Rattle.upload_order.specs.Pieces.{peel_found}
use Rattle.upload_order.proofs.Basics.{key_same, with_cases}
use Rattle.upload_order.proofs.Entries.{IsIn, found_in, none_found, in_filter, filter_in}
use Rattle.upload_order.proofs.Lists.{AreDistinct, distinct_filter, less_filter, any_of}
use Rattle.upload_order.proofs.Static.{IsUp, IsOrdered, no_more, next, with_key}
use Rattle.osm_base.proofs.RisingKeys.{one_key, key_itself}
use Rattle.osm_base.proofs.Tests.{never}

-- the keys done, with those of a list
abbrev pub all_with : List Key → (Key → Bool) → Key → Bool
all_with [] done = done
all_with (k ∷ ks) done = all_with ks (with_key k done)

pub with_done : (k q : Key) (done : Key → Bool) → done q ≡ true → with_key k done q ≡ true
with_done k q done h = elim (is_key q k) as (λ b. cond b true (done q) ≡ true) [ true ↦ refl | false ↦ h ]

pub all_done : (ks : List Key) (done : Key → Bool) (q : Key) → done q ≡ true → all_with ks done q ≡ true
all_done [] done q h = h
all_done (k ∷ ks) done q h = all_done ks (with_key k done) q (with_done k q done h)

pub all_in : (ks : List Key) (done : Key → Bool) (q : Key) → IsIn q ks → all_with ks done q ≡ true
all_in [] done q i = absurd i
all_in (k ∷ ks) done q (inl e) = all_done ks (with_key k done) q (ap (λ b. cond b true (done q)) (key_same q k (sym e)))
all_in (k ∷ ks) done q (inr i) = all_in ks (with_key k done) q i

pub all_cases : (ks : List Key) (done : Key → Bool) (q : Key) → all_with ks done q ≡ true → IsIn q ks ⊎ (done q ≡ true)
all_cases [] done q h = inr h
all_cases (k ∷ ks) done q h = elim (all_cases ks (with_key k done) q h) [
  | inl i ↦ inl (inr i)
  | inr d ↦ (elim (with_cases (is_key q k) (done q) d) [ inl e ↦ inl (inl (sym (one_key q k e))) | inr e ↦ inr e ])
]

pub not_with : (k q : Key) (done : Key → Bool) → (k ≡ q → ⊥) → done q ≡ false → with_key k done q ≡ false
not_with k q done n h = elim (cases_Bool (is_key q k)) [ inl e ↦ absurd (n (sym (one_key q k e))) | inr e ↦ ap (λ b. cond b true (done q)) e ∙ h ]

module _ (t : TableValue) where
  pub ordered_more : (done mid last : Key → Bool) (ks js : List Key) → IsOrdered t done ks mid → IsOrdered t mid js last → IsOrdered t done (ks ++ js) last
  ordered_more done mid last ks js (no_more d) b = b
  ordered_more done mid last ks js (next d m k is e c u f h a) b = next d last k (is ++ js) e c u f h (ordered_more (with_key k d) m last is js a b)

  -- the rising references of the key's mine are done
  abbrev pub IsAfter : (Key → Bool) → Key → Type 0
  IsAfter done k = (r : Key) → mine_refers t k r ≡ true → at_key t is_rising r ≡ true → done r ≡ true

  pub refers_mine : (k r : Key) (e : Entry) (c : Content) → IsUp t k e c → mine_refers t k r ≡ refers c r
  refers_mine k r e c u = ap (λ o. content_refers (mine_at o) r) u.entry ∙ ap (λ o. content_refers o r) u.mine

  -- keys that need nothing of each other, in any order
  pub part_ordered : (ks : List Key) (done : Key → Bool) → AreDistinct ks → ((k : Key) → IsIn k ks → ((e : Entry) × (c : Content) × IsUp t k e c) × (done k ≡ false) × IsAfter done k) → IsOrdered t done ks (all_with ks done)
  part_ordered [] done d h = no_more done
  part_ordered (k ∷ ks) done d h =
      let x = h k (inl refl) in
      next done (all_with ks (with_key k done)) k ks x.0.0 x.0.1 x.0.2 x.1 (λ r a b. x.2 r (refers_mine k r x.0.0 x.0.1 x.0.2 ∙ a) b)
      (part_ordered ks (with_key k done) d.1 (λ j i. let y = h j (inr i) in (y.0, not_with k j done (λ e. d.0 (subst (λ (z : Key). IsIn z ks) (sym e) i)) y.1, λ r a b. with_done k r done (y.2 r a b))))

  -- Peeling gives a good order, if no key is stuck.
  abbrev pub PeelsInOrder : ℕ → Type 0
  PeelsInOrder n = (left : List Key) (done : Key → Bool) → AreDistinct left
      → ((k : Key) → IsIn k left → ((e : Entry) × (c : Content) × IsUp t k e c) × (done k ≡ false))
      → ((k r : Key) → IsIn k left → mine_refers t k r ≡ true → at_key t is_rising r ≡ true → IsIn r left ⊎ (done r ≡ true))
      → IsOrdered t done (peel (mine_refers t) n left).order (all_with (peel (mine_refers t) n left).order done)

  pub peel_ordered : (n : ℕ) → PeelsInOrder n
  peel_ordered zero left done d h g = no_more done
  peel_ordered (suc n) left done d h g = by_found (peel_ordered n) (find (is_ready (mine_refers t) left) left) refl where
    by_found : PeelsInOrder n → (o : Option Key) → find (is_ready (mine_refers t) left) left ≡ o → IsOrdered t done (peel_found left o (λ k. peel (mine_refers t) n (without k left))).order (all_with (peel_found left o (λ k. peel (mine_refers t) n (without k left))).order done)
    by_found go None e = no_more done
    by_found go (Some k) e =
        let f = found_in (is_ready (mine_refers t) left) left k e in
        let x = h k f.0 in
        let rest = peel (mine_refers t) n (without k left) in
        next done (all_with rest.order (with_key k done)) k rest.order x.0.0 x.0.1 x.0.2 x.1
        (λ r a b. elim (g k r f.0 (refers_mine k r x.0.0 x.0.1 x.0.2 ∙ a) b) [
          | inl i ↦ never (list_any (mine_refers t k) left) (any_of (mine_refers t k) left r i (refers_mine k r x.0.0 x.0.1 x.0.2 ∙ a)) (not-true _ f.1)
          | inr i ↦ i
        ])
        (go (without k left) (with_key k done) (distinct_filter (λ j. not (is_key j k)) left d)
        (λ j i. let m = in_filter (λ j. not (is_key j k)) left j i in let y = h j m.0 in (y.0, ap (λ b. cond b true (done j)) (not-true (is_key j k) m.1) ∙ y.1))
        (λ j r i a b. let m = in_filter (λ j. not (is_key j k)) left j i in
        elim (g j r m.0 a b) [
          | inl l ↦ (elim (cases_Bool (is_key r k)) [
            | inl q ↦ inr (ap (λ c. cond c true (done r)) q)
            | inr q ↦ inl (filter_in (λ j. not (is_key j k)) left r l (ap not q))
          ])
          | inr l ↦ inr (with_done k r done l)
        ]))

  -- each key is put in the order or is stuck
  abbrev pub PeelsAll : ℕ → Type 0
  PeelsAll n = (left : List Key) (k : Key) → IsIn k left → IsIn k (peel (mine_refers t) n left).order ⊎ IsIn k (peel (mine_refers t) n left).stuck

  pub peel_all : (n : ℕ) → PeelsAll n
  peel_all zero left k i = inr i
  peel_all (suc n) left k i = by_found (peel_all n) (find (is_ready (mine_refers t) left) left) where
    by_found : PeelsAll n → (o : Option Key) → IsIn k (peel_found left o (λ k. peel (mine_refers t) n (without k left))).order ⊎ IsIn k (peel_found left o (λ k. peel (mine_refers t) n (without k left))).stuck
    by_found go None = inr i
    by_found go (Some j) = elim (cases_Bool (is_key k j)) [
      | inl e ↦ inl (inl (sym (one_key k j e)))
      | inr e ↦ (elim (go (without j left) k (filter_in (λ x. not (is_key x j)) left k i (ap not e))) [ inl x ↦ inl (inr x) | inr x ↦ inr x ])
    ]

  abbrev pub PeelsFrom : ℕ → Type 0
  PeelsFrom n = (left : List Key) (k : Key) → IsIn k (peel (mine_refers t) n left).order → IsIn k left

  pub peel_from : (n : ℕ) → PeelsFrom n
  peel_from zero left k i = absurd i
  peel_from (suc n) left k i = by_found (peel_from n) (find (is_ready (mine_refers t) left) left) refl i where
    by_found : PeelsFrom n → (o : Option Key) → find (is_ready (mine_refers t) left) left ≡ o → IsIn k (peel_found left o (λ k. peel (mine_refers t) n (without k left))).order → IsIn k left
    by_found go None e j = absurd j
    by_found go (Some q) e (inl s) = subst (λ (x : Key). IsIn x left) s (found_in (is_ready (mine_refers t) left) left q e).0
    by_found go (Some q) e (inr j) = (in_filter (λ x. not (is_key x q)) left k (go (without q left) k j)).0

  abbrev pub StuckFrom : ℕ → Type 0
  StuckFrom n = (left : List Key) (k : Key) → IsIn k (peel (mine_refers t) n left).stuck → IsIn k left

  -- what is stuck was to go
  pub stuck_from : (n : ℕ) → StuckFrom n
  stuck_from zero left k i = i
  stuck_from (suc n) left k i = by_found (stuck_from n) (find (is_ready (mine_refers t) left) left) i where
    by_found : StuckFrom n → (o : Option Key) → IsIn k (peel_found left o (λ k. peel (mine_refers t) n (without k left))).stuck → IsIn k left
    by_found go None j = j
    by_found go (Some q) j = (in_filter (λ x. not (is_key x q)) left k (go (without q left) k j)).0

  -- each stuck key refers to one that is stuck
  abbrev pub StuckRefers : ℕ → Type 0
  StuckRefers n = (left : List Key) → length left ≤ n → (k : Key) → IsIn k (peel (mine_refers t) n left).stuck → list_any (mine_refers t k) (peel (mine_refers t) n left).stuck ≡ true

  pub stuck_refers : (n : ℕ) → StuckRefers n
  stuck_refers zero left h k i = empty left h i where
    empty : (left : List Key) → length left ≤ 0 → IsIn k left → list_any (mine_refers t k) left ≡ true
    empty [] h i = absurd i
    empty (x ∷ xs) h i = absurd (let z : suc (length xs) ≤ 0 = h in omega (arith, z))
  stuck_refers (suc n) left h k i = by_found (stuck_refers n) (find (is_ready (mine_refers t) left) left) refl i where
    by_found : StuckRefers n → (o : Option Key) → find (is_ready (mine_refers t) left) left ≡ o → IsIn k (peel_found left o (λ k. peel (mine_refers t) n (without k left))).stuck → list_any (mine_refers t k) (peel_found left o (λ k. peel (mine_refers t) n (without k left))).stuck ≡ true
    by_found go None e j = not-false (list_any (mine_refers t k) left) (none_found (is_ready (mine_refers t) left) left k e j)
    by_found go (Some q) e j =
        let f = found_in (is_ready (mine_refers t) left) left q e in
        let less = less_filter (λ x. not (is_key x q)) left q f.0 (not_from_true (is_key q q) (key_itself q)) in
        go (without q left) (omega (arith, h, less)) k j

  -- and each set of keys that do is among the stuck ones
  abbrev pub StuckGreatest : ℕ → Type 0
  StuckGreatest n = (left set : List Key) → ((k : Key) → IsIn k set → IsIn k left) → ((k : Key) → IsIn k set → (r : Key) × IsIn r set × (mine_refers t k r ≡ true)) → (k : Key) → IsIn k set → IsIn k (peel (mine_refers t) n left).stuck

  pub stuck_greatest : (n : ℕ) → StuckGreatest n
  stuck_greatest zero left set sub each k i = sub k i
  stuck_greatest (suc n) left set sub each k i = by_found (stuck_greatest n) (find (is_ready (mine_refers t) left) left) refl where
    by_found : StuckGreatest n → (o : Option Key) → find (is_ready (mine_refers t) left) left ≡ o → IsIn k (peel_found left o (λ k. peel (mine_refers t) n (without k left))).stuck
    by_found go None e = sub k i
    by_found go (Some q) e = go (without q left) set (λ j l. filter_in (λ x. not (is_key x q)) left j (sub j l) (ap not (apart j l))) each k i where
      apart : (j : Key) → IsIn j set → is_key j q ≡ false
      apart j l = elim (cases_Bool (is_key j q)) [
        | inl s ↦ (
            let f = found_in (is_ready (mine_refers t) left) left q e in
            let r = each j l in
            never (list_any (mine_refers t q) left) (any_of (mine_refers t q) left r.0 (sub r.0 r.1) (ap (λ (x : Key). mine_refers t x r.0) (sym (one_key j q s)) ∙ r.2)) (not-true _ f.1))
        | inr s ↦ s
      ]
