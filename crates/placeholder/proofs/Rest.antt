-- The plan of a table whose first change is settled is the rest of the plan.
use Rattle.std.proofs.Common.{◌≡◌, ℕ, zero, suc, ◌≤◌, Bool, true, false, cond, not, ◌||◌, List, [], ◌∷◌, ◌++◌, length, Option, Some, None, refl, sym, ◌∙◌, ap, subst, ◌⊎◌, inl, inr, arith}
use Rattle.std.proofs.lemmas.Bool.{not-true, cases_Bool, cond-false, cond-true}
use Rattle.std.specs.Prelude.{T}
use Rattle.std.specs.List.{list_any, find}
use Rattle.std.specs.Option.{option_map_or}
use Rattle.std.specs.Cmp.{both_ways}
use Rattle.osm_base.specs.Rank.{is_key}
use Rattle.osm_base.specs.RisingKeys.{rises, is_in}
use Rattle.osm_base.specs.declared.key.Kind.{Kind}
use Rattle.osm_base.specs.declared.key.Kind.TheVariants as kind
use Rattle.osm_base.specs.declared.key.Key.{Key}
use Rattle.osm_base.proofs.ByRank.{rises_keys}
use Rattle.osm_base.proofs.RisingKeys.{one_key, key_itself, rises_filter, same_keys}
use Rattle.osm_base.proofs.Tests.{never}
use Rattle.osm_table.specs.declared.entry.Entry.{Entry}
use Rattle.osm_table.specs.Table.{TableValue, entry_of, keys_by_rank}
use Rattle.upload_order.specs.Kinds.{is_update, mine_refers}
use Rattle.upload_order.specs.Order.{without, is_ready, Peeled, peel}
use Rattle.upload_order.specs.Pieces.{peel_found}
use Rattle.upload_order.specs.Plan.{made, ups}
use Rattle.upload_order.proofs.Conditions.{Sound}
use Rattle.upload_order.proofs.Entries.{IsIn, any_in, in_any, found_in, in_filter, filter_in}
use Rattle.upload_order.proofs.Lists.{less_filter}
use Rattle.upload_order.proofs.Peel.{peel_from, peel_all}
use Rattle.upload_order.proofs.PlanUps.{ups_ordered, ups_done, apart_kinds}
use Rattle.upload_order.proofs.Static.{IsOrdered, no_more, next, with_key}
use Rattle.upload_order.proofs.Where.{keys_where, rising_of, rising_both, in_where, where_in}

pub rises_where : (t : TableValue) (test : Key → Entry → Bool) → T (rises (keys_where t test))
rises_where t test = rises_filter (λ k. option_map_or (test k) (entry_of t k) false) (keys_by_rank t) (rises_keys t.entries)

-- lists by rank of the same keys are one
same_list : (ks js : List Key) → T (rises ks) → T (rises js) → ((x : Key) → IsIn x ks → IsIn x js) → ((x : Key) → IsIn x js → IsIn x ks) → ks ≡ js
same_list ks js r s f g = same_keys ks js r s (λ q. both_ways (is_in q ks) (is_in q js) (λ h. in_any js q (f q (any_in ks q h))) (λ h. in_any ks q (g q (any_in js q h))))

-- The test's keys in the one table are those in the other, without k.
pub same_where : (t u : TableValue) (p q : Key → Entry → Bool) → ((j : Key) (e : Entry) → entry_of t j ≡ Some e → p j e ≡ true → (f : Entry) × (entry_of u j ≡ Some f) × (q j f ≡ true)) → ((j : Key) (e : Entry) → entry_of u j ≡ Some e → q j e ≡ true → (f : Entry) × (entry_of t j ≡ Some f) × (p j f ≡ true)) → keys_where t p ≡ keys_where u q
same_where t u p q there back = same_list (keys_where t p) (keys_where u q) (rises_where t p) (rises_where u q)
    (λ x i. let a = in_where t p x i in let b = there x a.0 a.1 a.2 in where_in u q x b.0 b.1 b.2)
    (λ x i. let a = in_where u q x i in let b = back x a.0 a.1 a.2 in where_in t p x b.0 b.1 b.2)

pub without_where : (t u : TableValue) (k : Key) (p q : Key → Entry → Bool) → ((j : Key) (e : Entry) → is_key j k ≡ false → entry_of t j ≡ Some e → p j e ≡ true → (f : Entry) × (entry_of u j ≡ Some f) × (q j f ≡ true)) → ((j : Key) (e : Entry) → entry_of u j ≡ Some e → q j e ≡ true → (is_key j k ≡ false) × ((f : Entry) × (entry_of t j ≡ Some f) × (p j f ≡ true))) → without k (keys_where t p) ≡ keys_where u q
without_where t u k p q there back = same_list (without k (keys_where t p)) (keys_where u q) (rises_filter (λ j. not (is_key j k)) (keys_where t p) (rises_where t p)) (rises_where u q)
    (λ x i. let m = in_filter (λ j. not (is_key j k)) (keys_where t p) x i in let a = in_where t p x m.0 in let b = there x a.0 (not-true (is_key x k) m.1) a.1 a.2 in where_in u q x b.0 b.1 b.2)
    (λ x i. let a = in_where u q x i in let b = back x a.0 a.1 a.2 in filter_in (λ j. not (is_key j k)) (keys_where t p) x (where_in t p x b.1.0 b.1.1 b.1.2) (ap not b.0))

pub without_absent : (k : Key) (ks : List Key) → (IsIn k ks → ⊥) → without k ks ≡ ks
without_absent k [] n = refl
without_absent k (j ∷ js) n =
    cond-true (not (is_key j k)) (j ∷ without k js) (without k js) (ap not (elim (cases_Bool (is_key j k)) as (λ _. is_key j k ≡ false) [ inl e ↦ absurd (n (inl (one_key j k e))) | inr e ↦ e ]))
    ∙ ap (λ xs. j ∷ xs) (without_absent k js (λ i. n (inr i)))

pub without_head : (k : Key) (ks : List Key) → (IsIn k ks → ⊥) → without k (k ∷ ks) ≡ ks
without_head k ks n = cond-false (not (is_key k k)) (k ∷ without k ks) (without k ks) (ap not (key_itself k)) ∙ without_absent k ks n

append_one : {A : Type 0} (b : Bool) (x : A) (xs ys : List A) → cond b (x ∷ xs) xs ++ ys ≡ cond b (x ∷ (xs ++ ys)) (xs ++ ys)
append_one true x xs ys = refl
append_one false x xs ys = refl

pub without_append : (k : Key) (ks js : List Key) → without k (ks ++ js) ≡ without k ks ++ without k js
without_append k [] js = refl
without_append k (x ∷ xs) js = ap (λ (ys : List Key). cond (not (is_key x k)) (x ∷ ys) ys) (without_append k xs js) ∙ sym (append_one (not (is_key x k)) x (without k xs) (without k js))

-- what is ordered is not done before
pub not_before : (t : TableValue) (done last : Key → Bool) (ks : List Key) → IsOrdered t done ks last → (q : Key) → IsIn q ks → done q ≡ false
not_before t done last ks (no_more d) q i = absurd i
not_before t done last ks (next d l k js e c u free h a) q (inl s) = ap d (sym s) ∙ free
not_before t done last ks (next d l k js e c u free h a) q (inr i) = off (is_key q k) (d q) (not_before t (with_key k d) l js a q i) where
  off : (b c : Bool) → cond b true c ≡ false → c ≡ false
  off true c e = cc
  off false c e = e

pub ordered_head : (t : TableValue) (done last : Key → Bool) (k : Key) (ks : List Key) → IsOrdered t done (k ∷ ks) last → IsIn k ks → ⊥
ordered_head t done last k ks (next d l j js e c u free h a) i = never (with_key k d k) (ap (λ b. cond b true (d k)) (key_itself k)) (not_before t (with_key k d) l ks a k i)

-- Peeling depends on the references among those left alone.
module _ (t u : TableValue) where
  any_same : (xs : List Key) (k : Key) → ((r : Key) → IsIn r xs → mine_refers t k r ≡ mine_refers u k r) → list_any (mine_refers t k) xs ≡ list_any (mine_refers u k) xs
  any_same [] k h = refl
  any_same (x ∷ xs) k h = λ i. (h x (inl refl) i || any_same xs k (λ r j. h r (inr j)) i)

  pub find_same : (p q : Key → Bool) (xs : List Key) → ((x : Key) → IsIn x xs → p x ≡ q x) → find p xs ≡ find q xs
  find_same p q [] h = refl
  find_same p q (x ∷ xs) h = λ i. cond (h x (inl refl) i) (Some x) (find_same p q xs (λ y j. h y (inr j)) i)

  abbrev PeelsSame : ℕ → Type 0
  PeelsSame n = (m : ℕ) (left : List Key) → length left ≤ n → length left ≤ m → ((k r : Key) → IsIn k left → IsIn r left → mine_refers t k r ≡ mine_refers u k r) → peel (mine_refers t) n left ≡ peel (mine_refers u) m left

  peel_found_same : (n m : ℕ) (left : List Key) → ((k : Key) → IsIn k left → peel (mine_refers t) n (without k left) ≡ peel (mine_refers u) m (without k left)) → (o : Option Key) → ((k : Key) → o ≡ Some k → IsIn k left) → peel_found left o (λ k. peel (mine_refers t) n (without k left)) ≡ peel_found left o (λ k. peel (mine_refers u) m (without k left))
  peel_found_same n m left h None i = refl
  peel_found_same n m left h (Some k) i = ap (λ (p : Peeled). let x : Peeled = record { order = k ∷ p.order; stuck = p.stuck } in x) (h k (i k refl))

  peel_none : (v : TableValue) (m : ℕ) → peel (mine_refers v) m [] ≡ record { order = []; stuck = [] }
  peel_none v zero = refl
  peel_none v (suc m) = refl

  no_length : {P : Type 0} (k : Key) (ks : List Key) → length (k ∷ ks) ≤ 0 → P
  no_length k ks h = absurd (let z : suc (length ks) ≤ 0 = h in omega (arith, z))

  peel_step : (n m : ℕ) → ((left : List Key) → length left ≤ n → length left ≤ m → ((k r : Key) → IsIn k left → IsIn r left → mine_refers t k r ≡ mine_refers u k r) → peel (mine_refers t) n left ≡ peel (mine_refers u) m left) → (left : List Key) → length left ≤ suc n → length left ≤ suc m → ((k r : Key) → IsIn k left → IsIn r left → mine_refers t k r ≡ mine_refers u k r) → peel (mine_refers t) (suc n) left ≡ peel (mine_refers u) (suc m) left
  peel_step n m go left h g same =
      let e : find (is_ready (mine_refers t) left) left ≡ find (is_ready (mine_refers u) left) left = find_same (is_ready (mine_refers t) left) (is_ready (mine_refers u) left) left (λ x i. ap not (any_same left x (λ r j. same x r i j))) in
      peel_found_same n m left (λ k i.
      let less = less_filter (λ x. not (is_key x k)) left k i (ap not (key_itself k)) in
      go (without k left) (omega (arith, h, less)) (omega (arith, g, less)) (λ j r a b. same j r (in_filter (λ x. not (is_key x k)) left j a).0 (in_filter (λ x. not (is_key x k)) left r b).0)) (find (is_ready (mine_refers t) left) left) (λ k f. (found_in (is_ready (mine_refers t) left) left k f).0)
      ∙ ap (λ o. peel_found left o (λ k. peel (mine_refers u) m (without k left))) e

  -- and not on the number of steps, if there are enough
  pub peel_same : (n : ℕ) → PeelsSame n
  peel_same zero m [] h g same = sym (peel_none u m)
  peel_same zero m (k ∷ ks) h g same = no_length k ks h
  peel_same (suc n) zero [] h g same = refl
  peel_same (suc n) zero (k ∷ ks) h g same = no_length k ks g
  peel_same (suc n) (suc m) left h g same = peel_step n m (λ l a b c. peel_same n m l a b c) left h g same

cons_head : (x k : Key) (xs ks : List Key) → x ∷ xs ≡ k ∷ ks → (x ≡ k) × (xs ≡ ks)
cons_head x k xs ks e = (ap (λ l. head_or l x) e, ap tail_of e) where
  head_or : List Key → Key → Key
  head_or [] y = y
  head_or (z ∷ zs) y = z

  tail_of : List Key → List Key
  tail_of [] = []
  tail_of (z ∷ zs) = zs

-- a list with the head k begins with k, or is empty
pub front : (xs ys : List Key) (k : Key) (ks : List Key) → xs ++ ys ≡ k ∷ ks → ((xs ≡ []) × (ys ≡ k ∷ ks)) ⊎ ((zs : List Key) × (xs ≡ k ∷ zs))
front [] ys k ks e = inl (refl, e)
front (x ∷ xs) ys k ks e = inr (xs, ap (λ (y : Key). y ∷ xs) (cons_head x k (xs ++ ys) ks e).0)

module _ (t : TableValue) where
  -- where peeling begins with k, it goes on without k
  abbrev Begins : ℕ → List Key → Key → Type 0
  Begins n left k = (m : ℕ) × (length (without k left) ≤ m) × ((peel (mine_refers t) n left).order ≡ k ∷ (peel (mine_refers t) m (without k left)).order) × ((peel (mine_refers t) n left).stuck ≡ (peel (mine_refers t) m (without k left)).stuck)

  begins_at : (n : ℕ) (left : List Key) (k : Key) (zs : List Key) (o : Option Key) → find (is_ready (mine_refers t) left) left ≡ o → length left ≤ suc n → (peel_found left o (λ j. peel (mine_refers t) n (without j left))).order ≡ k ∷ zs → (m : ℕ) × (length (without k left) ≤ m) × ((peel_found left o (λ j. peel (mine_refers t) n (without j left))).order ≡ k ∷ (peel (mine_refers t) m (without k left)).order) × ((peel_found left o (λ j. peel (mine_refers t) n (without j left))).stuck ≡ (peel (mine_refers t) m (without k left)).stuck)
  begins_at n left k zs None f h e = cc
  begins_at n left k zs (Some j) f h e =
      let one : j ≡ k = (cons_head j k _ zs e).0 in
      let less = less_filter (λ x. not (is_key x k)) left k (subst (λ (x : Key). IsIn x left) one (found_in (is_ready (mine_refers t) left) left j f).0) (ap not (key_itself k)) in
      (n, omega (arith, h, less), ap (λ (x : Key). x ∷ (peel (mine_refers t) n (without x left)).order) one, ap (λ (x : Key). (peel (mine_refers t) n (without x left)).stuck) one)

  pub begins : (n : ℕ) (left : List Key) (k : Key) (zs : List Key) → length left ≤ n → (peel (mine_refers t) n left).order ≡ k ∷ zs → Begins n left k
  begins zero left k zs h e = cc
  begins (suc n) left k zs h e = begins_at n left k zs (find (is_ready (mine_refers t) left) left) refl h e

-- The changes of t begin with k, and u is t with k settled.
module _ (t u : TableValue) (s : Sound t) (clear : (made t).stuck ≡ []) (k : Key) (ks : List Key) (head : ups t ≡ k ∷ ks)
    (rising : (kd : Kind) → without k (keys_where t (rising_of kd)) ≡ keys_where u (rising_of kd))
    (updates : without k (keys_where t (λ j e. is_update e)) ≡ keys_where u (λ j e. is_update e))
    (same : (j r : Key) → IsIn j (keys_where u (rising_of kind.Relation)) → IsIn r (keys_where u (rising_of kind.Relation)) → mine_refers t j r ≡ mine_refers u j r) where
  pub ordered : IsOrdered t (λ _. false) (k ∷ ks) (ups_done t s)
  ordered = subst (λ (xs : List Key). IsOrdered t (λ _. false) xs (ups_done t s)) head (ups_ordered t s clear)

  pub once : IsIn k ks → ⊥
  once = ordered_head t (λ _. false) (ups_done t s) k ks ordered

  kind_at : (kd : Kind) → IsIn k (keys_where t (rising_of kd)) → k.kind ≡ kd
  kind_at kd i = let x = in_where t (rising_of kd) k i in (rising_both kd k.kind x.0 x.2).0

  starts : (kd : Kind) (zs : List Key) → keys_where t (rising_of kd) ≡ k ∷ zs → k.kind ≡ kd
  starts kd zs e = kind_at kd (subst (λ (xs : List Key). IsIn k xs) (sym e) (inl refl))

  relation_first : IsIn k (keys_where t (rising_of kind.Relation)) → (zs : List Key) × ((made t).order ≡ k ∷ zs)
  relation_first i =
      let kd = kind_at kind.Relation i in
      elim (front (keys_where t (rising_of kind.Node)) _ k ks head) [
        | inr a ↦ apart_kinds kind.Node kind.Relation k.kind (starts kind.Node a.0 a.1) kd refl
        | inl a ↦ (elim (front (keys_where t (rising_of kind.Way)) _ k ks a.1) [
          | inr b ↦ apart_kinds kind.Way kind.Relation k.kind (starts kind.Way b.0 b.1) kd refl
          | inl b ↦ (elim (front (made t).order _ k ks b.1) [
            | inr c ↦ c
            | inl c ↦ (elim (peel_all t (length (keys_where t (rising_of kind.Relation))) (keys_where t (rising_of kind.Relation)) k i) [
              | inl d ↦ absurd (subst (λ (xs : List Key). IsIn k xs) c.0 d)
              | inr d ↦ absurd (subst (λ (xs : List Key). IsIn k xs) clear d)
            ])
          ])
        ])
      ]

  order_again : (m : ℕ) → length (keys_where u (rising_of kind.Relation)) ≤ m → ((peel (mine_refers u) m (keys_where u (rising_of kind.Relation))).order ≡ without k (made t).order) × ((peel (mine_refers u) m (keys_where u (rising_of kind.Relation))).stuck ≡ (made t).stuck)
  order_again m b = elim (cases_Bool (list_any (is_key k) (keys_where t (rising_of kind.Relation)))) [
    | inl i ↦ there (any_in (keys_where t (rising_of kind.Relation)) k i)
    | inr n ↦ absent (λ i. never (list_any (is_key k) (keys_where t (rising_of kind.Relation))) (in_any (keys_where t (rising_of kind.Relation)) k i) n)
  ] where
    absent : (IsIn k (keys_where t (rising_of kind.Relation)) → ⊥) → ((peel (mine_refers u) m (keys_where u (rising_of kind.Relation))).order ≡ without k (made t).order) × ((peel (mine_refers u) m (keys_where u (rising_of kind.Relation))).stuck ≡ (made t).stuck)
    absent n =
        let one : keys_where t (rising_of kind.Relation) ≡ keys_where u (rising_of kind.Relation) = sym (without_absent k (keys_where t (rising_of kind.Relation)) n) ∙ rising kind.Relation in
        let shift : peel (mine_refers t) (length (keys_where t (rising_of kind.Relation))) (keys_where u (rising_of kind.Relation)) ≡ peel (mine_refers u) m (keys_where u (rising_of kind.Relation)) = peel_same t u (length (keys_where t (rising_of kind.Relation))) m (keys_where u (rising_of kind.Relation)) (let z = ap (λ (xs : List Key). length xs) one in omega (arith, z)) b same in (
          ap (λ (p : Peeled). p.order) (sym shift) ∙ ap (λ (xs : List Key). (peel (mine_refers t) (length (keys_where t (rising_of kind.Relation))) xs).order) (sym one) ∙ sym (without_absent k (made t).order (λ i. n (peel_from t (length (keys_where t (rising_of kind.Relation))) (keys_where t (rising_of kind.Relation)) k i))),
          ap (λ (p : Peeled). p.stuck) (sym shift) ∙ ap (λ (xs : List Key). (peel (mine_refers t) (length (keys_where t (rising_of kind.Relation))) xs).stuck) (sym one),
        )

    there : IsIn k (keys_where t (rising_of kind.Relation)) → ((peel (mine_refers u) m (keys_where u (rising_of kind.Relation))).order ≡ without k (made t).order) × ((peel (mine_refers u) m (keys_where u (rising_of kind.Relation))).stuck ≡ (made t).stuck)
    there i =
        let f = relation_first i in
        let g = begins t (length (keys_where t (rising_of kind.Relation))) (keys_where t (rising_of kind.Relation)) k f.0 (omega arith) f.1 in
        let gone : IsIn k (peel (mine_refers t) g.0 (without k (keys_where t (rising_of kind.Relation)))).order → ⊥ = λ j. never (is_key k k) (key_itself k) (not-true (is_key k k) (in_filter (λ x. not (is_key x k)) (keys_where t (rising_of kind.Relation)) k (peel_from t g.0 (without k (keys_where t (rising_of kind.Relation))) k j)).1) in
        let shift : peel (mine_refers t) g.0 (keys_where u (rising_of kind.Relation)) ≡ peel (mine_refers u) m (keys_where u (rising_of kind.Relation)) = peel_same t u g.0 m (keys_where u (rising_of kind.Relation)) (let z = ap (λ (xs : List Key). length xs) (rising kind.Relation) in let y = g.1 in omega (arith, z, y)) b same in (
          ap (λ (p : Peeled). p.order) (sym shift) ∙ ap (λ (xs : List Key). (peel (mine_refers t) g.0 xs).order) (sym (rising kind.Relation)) ∙ sym (ap (without k) g.2 ∙ without_head k _ gone),
          ap (λ (p : Peeled). p.stuck) (sym shift) ∙ ap (λ (xs : List Key). (peel (mine_refers t) g.0 xs).stuck) (sym (rising kind.Relation)) ∙ sym g.3,
        )

  -- the keys of the changes of u are the rest
  pub ups_again : ups u ≡ ks
  ups_again =
      let relations = order_again (length (keys_where u (rising_of kind.Relation))) (omega arith) in
      let parts : without k (ups t) ≡ ups u =
      without_append k (keys_where t (rising_of kind.Node)) _
      ∙ ap (λ (xs : List Key). xs ++ without k (keys_where t (rising_of kind.Way) ++ ((made t).order ++ keys_where t (λ j e. is_update e)))) (rising kind.Node)
      ∙ ap (λ (xs : List Key). keys_where u (rising_of kind.Node) ++ xs) (
      without_append k (keys_where t (rising_of kind.Way)) _
      ∙ ap (λ (xs : List Key). xs ++ without k ((made t).order ++ keys_where t (λ j e. is_update e))) (rising kind.Way)
      ∙ ap (λ (xs : List Key). keys_where u (rising_of kind.Way) ++ xs) (
      without_append k (made t).order _
      ∙ ap (λ (xs : List Key). xs ++ without k (keys_where t (λ j e. is_update e))) (sym relations.0)
      ∙ ap (λ (xs : List Key). (made u).order ++ xs) updates)) in
      sym parts ∙ ap (without k) head ∙ without_head k ks once

  pub stuck_again : (made u).stuck ≡ []
  stuck_again = (order_again (length (keys_where u (rising_of kind.Relation))) (omega arith)).1 ∙ clear
