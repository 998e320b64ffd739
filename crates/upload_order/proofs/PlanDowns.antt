-- The last two parts of the plan are in a good order, and whole.
use Rattle.std.proofs.Common.{◌≡◌, ℕ, zero, suc, ◌+◌, ◌≤◌, Bool, true, false, cond, not, List, [], ◌∷◌, ◌++◌, map, length, Option, Some, None, refl, sym, ◌∙◌, ap, subst, inl, inr, arith}
use Rattle.std.proofs.lemmas.Bool.{and_parts, not-true, not-false, not_from_true, cases_Bool, cond-true, cond-false, false_from_ne_true}
use Rattle.std.specs.List.{list_any, find, filter}
use Rattle.osm_base.specs.Rank.{is_key}
use Rattle.osm_base.specs.Content.{refers}
use Rattle.osm_base.specs.declared.key.Kind.{Kind}
use Rattle.osm_base.specs.declared.key.Kind.TheVariants as kind
use Rattle.osm_base.specs.declared.key.Key.{Key}
use Rattle.osm_base.specs.declared.content.Content.{Content}
use Rattle.osm_table.specs.declared.entry.Entry.{Entry}
use Rattle.osm_table.specs.Table.{TableValue, entry_of}
use Rattle.upload_order.specs.Kinds.{held_of, content_refers, held_at, held_refers, is_falling, at_key}
use Rattle.upload_order.proofs.Where.{falling_both, falling_self, falling_of, keys_where, falling_items, distinct_where, in_where, where_in}
use Rattle.upload_order.specs.Fall.{Item, item_uses, is_unused, uses_some, without_item, emptied, fall}
use Rattle.upload_order.specs.Pieces.{fall_next, fall_clear}
use Rattle.upload_order.specs.Plan.{plain_removes, downs}
use Rattle.upload_order.specs.declared.down.Down.{Down}
use Rattle.upload_order.proofs.Basics.{key_same, both, none_some}
use Rattle.upload_order.proofs.Entries.{IsIn, found_in, none_found, in_filter, filter_in, in_map, map_in}
use Rattle.upload_order.proofs.Lists.{AreDistinct, any_of, any_is}
use Rattle.upload_order.proofs.Static.{Left, set_left, IsDown, no_more, clear, remove}
use Rattle.upload_order.proofs.Along.{at_is}
use Rattle.upload_order.proofs.Turn.{start_left, to_go, to_go_some}
use Rattle.upload_order.proofs.PlanUps.{kind_is, node_refs, way_refs, apart_kinds}
use Rattle.upload_order.proofs.Conditions.{Sound}
use Rattle.osm_base.proofs.RisingKeys.{one_key, key_itself}
use Rattle.osm_base.proofs.Tests.{never, some_passed}

-- each step is worth one of these
abbrev pub worth : Bool → ℕ
worth true = 1
worth false = 2

abbrev pub weight : List Item → ℕ
weight [] = 0
weight (i ∷ is) = worth i.1 + weight is

-- the keys of a kind that are left are the items
record IsList (t : TableValue) (left : Left) (items : List Item) : Type 0 where
  falls : (i : Item) → IsIn i items → (at_key t is_falling i.0 ≡ true) × (i.0.kind ≡ kind.Relation)
  listed : (k : Key) (b : Bool) → k.kind ≡ kind.Relation → left k ≡ Some b → IsIn (k, b) items
  lefts : (i : Item) → IsIn i items → left i.0 ≡ Some i.1

pub positive_worth : (b : Bool) → 1 ≤ worth b
positive_worth true = omega arith
positive_worth false = omega arith

drop_head : (b : Bool) (i : Item) (xs ys : List Item) → weight ys ≤ weight xs → weight (cond b (i ∷ ys) ys) ≤ worth i.1 + weight xs
drop_head true i xs ys h = omega (arith, h)
drop_head false i xs ys h = omega (arith, h)

pub drop_most : (test : Item → Bool) (xs : List Item) → weight (filter test xs) ≤ weight xs
drop_most test [] = omega arith
drop_most test (i ∷ xs) = drop_head (test i) i xs (filter test xs) (drop_most test xs)

drop_here : (b : Bool) (i : Item) (xs ys : List Item) → b ≡ false → weight ys ≤ weight xs → weight (cond b (i ∷ ys) ys) + 1 ≤ worth i.1 + weight xs
drop_here true i xs ys e h = cc
drop_here false i xs ys e h = omega (arith, h, positive_worth i.1)

drop_there : (b : Bool) (i : Item) (xs ys : List Item) → weight ys + 1 ≤ weight xs → weight (cond b (i ∷ ys) ys) + 1 ≤ worth i.1 + weight xs
drop_there true i xs ys h = omega (arith, h)
drop_there false i xs ys h = omega (arith, h)

pub lighter_drop : (test : Item → Bool) (xs : List Item) (i : Item) → IsIn i xs → test i ≡ false → weight (filter test xs) + 1 ≤ weight xs
lighter_drop test [] i n e = absurd n
lighter_drop test (j ∷ xs) i (inl s) e = drop_here (test j) j xs (filter test xs) (ap test s ∙ e) (drop_most test xs)
lighter_drop test (j ∷ xs) i (inr n) e = drop_there (test j) j xs (filter test xs) (lighter_drop test xs i n e)

pub less_worth : (b c : Bool) → worth (cond b true c) ≤ worth c
less_worth true true = omega arith
less_worth true false = omega arith
less_worth false c = omega arith

pub mark_most : (k : Key) (xs : List Item) → weight (map (emptied k) xs) ≤ weight xs
mark_most k [] = omega arith
mark_most k (i ∷ xs) = omega (arith, mark_most k xs, less_worth (is_key i.0 k) i.1)

mark_worth : (b c : Bool) → b ≡ true → c ≡ false → worth (cond b true c) + 1 ≤ worth c
mark_worth true true e f = cc
mark_worth true false e f = omega arith
mark_worth false c e f = cc

pub lighter_mark : (k : Key) (xs : List Item) (i : Item) → IsIn i xs → i.0 ≡ k → i.1 ≡ false → weight (map (emptied k) xs) + 1 ≤ weight xs
lighter_mark k [] i n e f = absurd n
lighter_mark k (j ∷ xs) i (inl s) e f = omega (arith, mark_most k xs, mark_worth (is_key j.0 k) j.1 (key_same j.0 k (ap (λ (x : Item). x.0) s ∙ e)) (ap (λ (x : Item). x.1) s ∙ f))
lighter_mark k (j ∷ xs) i (inr n) e f = omega (arith, lighter_mark k xs i n e f, less_worth (is_key j.0 k) j.1)

pub some_one : (b c : Bool) → Some b ≡ Some c → b ≡ c
some_one b c e = both b c (Some b) refl e

module _ (t : TableValue) (s : Sound t) where
  -- what is left after the relations
  record AreGone (left last : Left) : Type 0 where
    gone : (k : Key) → k.kind ≡ kind.Relation → last k ≡ None
    same : (k : Key) → (k.kind ≡ kind.Relation → ⊥) → last k ≡ left k

  dropped : (left : Left) (items : List Item) (i : Item) → IsList t left items → IsIn i items → IsList t (set_left i.0 None left) (without_item i.0 items)
  dropped left items i l n = record {
    falls = λ j m. l.falls j (in_filter (λ j. not (is_key j.0 i.0)) items j m).0;
    listed = λ k b e h. elim (cases_Bool (is_key k i.0)) [
      | inl x ↦ (let y = sym (cond-true (is_key k i.0) None (left k) x) ∙ h in cc)
      | inr x ↦ filter_in (λ j. not (is_key j.0 i.0)) items (k, b) (l.listed k b e (sym (cond-false (is_key k i.0) None (left k) x) ∙ h)) (ap not x)
    ];
    lefts = λ j m. let f = in_filter (λ j. not (is_key j.0 i.0)) items j m in cond-false (is_key j.0 i.0) None (left j.0) (not-true (is_key j.0 i.0) f.1) ∙ l.lefts j f.0;
  }

  marked : (left : Left) (items : List Item) (i : Item) → IsList t left items → IsIn i items → IsList t (set_left i.0 (Some true) left) (map (emptied i.0) items)
  marked left items i l n = record {
    falls = λ j m. let f = map_in (emptied i.0) items j m in subst (λ (x : Key). (at_key t is_falling x ≡ true) × (x.kind ≡ kind.Relation)) (ap (λ (x : Item). x.0) f.2) (l.falls f.0 f.1);
    listed = λ k b e h. elim (cases_Bool (is_key k i.0)) [
      | inl x ↦ subst (λ (y : Item). IsIn y (map (emptied i.0) items)) (mark_here i.0 i k b (one_key k i.0 x) (some_one true b (sym (cond-true (is_key k i.0) (Some true) (left k) x) ∙ h))) (in_map (emptied i.0) items i n)
      | inr x ↦ subst (λ (y : Item). IsIn y (map (emptied i.0) items)) (mark_off i.0 k b x) (in_map (emptied i.0) items (k, b) (l.listed k b e (sym (cond-false (is_key k i.0) (Some true) (left k) x) ∙ h)))
    ];
    lefts = λ j m.
        let f = map_in (emptied i.0) items j m in
        subst (λ (y : Item). set_left i.0 (Some true) left y.0 ≡ Some y.1) f.2 (mark_left (is_key f.0.0 i.0) f.0.1 (left f.0.0) (l.lefts f.0 f.1));
  } where
    mark_here : (q : Key) (i : Item) (k : Key) (b : Bool) → k ≡ i.0 → true ≡ b → emptied i.0 i ≡ (k, b)
    mark_here q i k b e f = λ x. (sym e x, (ap (λ c. cond c true i.1) (key_itself i.0) ∙ f) x)

    mark_off : (q k : Key) (b : Bool) → is_key k q ≡ false → emptied q (k, b) ≡ (k, b)
    mark_off q k b e = λ x. (k, ap (λ c. cond c true b) e x)

    mark_left : (c b : Bool) (o : Option Bool) → o ≡ Some b → cond c (Some true) o ≡ Some (cond c true b)
    mark_left true b o e = refl
    mark_left false b o e = e

  pub held_is : (u : Key) (f : Entry) (c : Content) (r : Key) → entry_of t u ≡ Some f → held_of f ≡ Some c → held_refers t u r ≡ refers c r
  held_is u f c r h g = ap (λ o. content_refers (held_at o) r) h ∙ ap (λ o. content_refers o r) g

  data Kinds (a : Kind) : Type 0 where
    is_node : a ≡ kind.Node → Kinds a
    is_way : a ≡ kind.Way → Kinds a
    is_relation : a ≡ kind.Relation → Kinds a

  kinds : (a : Kind) → Kinds a
  kinds kind.Node = is_node refl
  kinds kind.Way = is_way refl
  kinds kind.Relation = is_relation refl

  -- a way or a node refers to no relation
  pub low_free : (u k : Key) (f : Entry) (c : Content) → (u.kind ≡ kind.Relation → ⊥) → k.kind ≡ kind.Relation → entry_of t u ≡ Some f → held_of f ≡ Some c → refers c k ≡ false
  low_free u k f c n e h g = false_from_ne_true (refers c k) (λ r. elim (kinds u.kind) [
    | is_node x ↦ node_refs c k (s.kinds u f c h (inr g) ∙ x) r
    | is_way x ↦ apart_kinds kind.Node kind.Relation k.kind (way_refs c k (s.kinds u f c h (inr g) ∙ x) r) e refl
    | is_relation x ↦ n x
  ])

  abbrev Falls : ℕ → Type 0
  Falls n = (items : List Item) (left : Left) → weight items ≤ n → IsList t left items → (last : Left) × IsDown t left (fall (held_refers t) n items) last × AreGone left last

  nothing_left : (left : Left) → IsList t left [] → (last : Left) × IsDown t left [] last × AreGone left last
  nothing_left left l = (left, no_more left, record { gone = λ k e. empty k e (left k) refl; same = λ k n. refl }) where
    empty : (k : Key) → k.kind ≡ kind.Relation → (o : Option Bool) → left k ≡ o → o ≡ None
    empty k e None h = refl
    empty k e (Some b) h = absurd (l.listed k b e h)

  some_weight : (i : Item) (is : List Item) → weight (i ∷ is) ≤ 0 → ⊥
  some_weight i is h = omega (arith, h, positive_worth i.1)

  -- after one step on the key
  step_gone : (k : Key) (b : Option Bool) (left last : Left) → k.kind ≡ kind.Relation → AreGone (set_left k b left) last → AreGone left last
  step_gone k b left last e a = record {
    gone = a.gone;
    same = λ q n. a.same q n ∙ cond-false (is_key q k) b (left q) (false_from_ne_true (is_key q k) (λ x. n (ap (λ (y : Key). y.kind) (one_key q k x) ∙ e)));
  }

  fall_step : (n : ℕ) → Falls n → (items : List Item) (left : Left) → weight items ≤ suc n → IsList t left items
      → (o : Option Item) → find (is_unused (held_refers t) items) items ≡ o → (p : Option Item) → find (uses_some (held_refers t) items) items ≡ p
      → (last : Left) × IsDown t left (fall_next o (λ k. fall (held_refers t) n (without_item k items)) (fall_clear p (λ k. fall (held_refers t) n (map (emptied k) items)))) last × AreGone left last
  fall_step n go items left h l (Some i) e p g =
      let f = found_in (is_unused (held_refers t) items) items i e in
      let x = l.falls i f.0 in
      let y = some_passed is_falling (entry_of t i.0) x.0 in
      let lighter = lighter_drop (λ j. not (is_key j.0 i.0)) items i f.0 (not_from_true (is_key i.0 i.0) (key_itself i.0)) in
      let r = go (without_item i.0 items) (set_left i.0 None left) (omega (arith, h, lighter)) (dropped left items i l f.0) in (
        r.0,
        remove left r.0 i.0 i.1 _ y.0 y.1 y.2 (l.lefts i f.0) (λ u k c a b d. elim (kinds u.kind) [
          | is_node z ↦ low_free u i.0 k c (λ w. apart_kinds kind.Node kind.Relation u.kind z w refl) x.1 b d
          | is_way z ↦ low_free u i.0 k c (λ w. apart_kinds kind.Way kind.Relation u.kind z w refl) x.1 b d
          | is_relation z ↦ sym (held_is u k c i.0 b d) ∙ false_from_ne_true (held_refers t u i.0) (λ w. never (list_any (item_uses (held_refers t) i.0) items) (any_of (item_uses (held_refers t) i.0) items (u, false) (l.listed u false z a) w) (not-true _ f.1))
        ]) r.1,
        step_gone i.0 None left r.0 x.1 r.2,
      )
  fall_step n go items left h l None e (Some i) g =
      let f = found_in (uses_some (held_refers t) items) items i g in
      let x = l.falls i f.0 in
      let y = some_passed is_falling (entry_of t i.0) x.0 in
      let j = any_is (λ j. item_uses (held_refers t) j.0 i) items f.1 in
      let whole : i.1 ≡ false = not-true i.1 (and_parts (not i.1) (held_refers t i.0 j.0.0) j.2).0 in
      let lighter = lighter_mark i.0 items i f.0 refl whole in
      let r = go (map (emptied i.0) items) (set_left i.0 (Some true) left) (omega (arith, h, lighter)) (marked left items i l f.0) in
      (r.0, clear left r.0 i.0 _ y.0 y.1 y.2 (l.lefts i f.0 ∙ ap (λ (b : Bool). Some b) whole) r.1, step_gone i.0 (Some true) left r.0 x.1 r.2)
  fall_step n go [] left h l None e None g = nothing_left left l
  fall_step n go (i ∷ is) left h l None e None g =
      let used = not-false (list_any (item_uses (held_refers t) i.0) (i ∷ is)) (none_found (is_unused (held_refers t) (i ∷ is)) (i ∷ is) i e (inl refl)) in
      let u = any_is (item_uses (held_refers t) i.0) (i ∷ is) used in
      let some = any_of (λ j. item_uses (held_refers t) j.0 u.0) (i ∷ is) i (inl refl) u.2 in
      never (uses_some (held_refers t) (i ∷ is) u.0) some (none_found (uses_some (held_refers t) (i ∷ is)) (i ∷ is) u.0 g u.1)

  falls_down : (n : ℕ) → Falls n
  falls_down zero [] left h l = nothing_left left l
  falls_down zero (i ∷ is) left h l = absurd (some_weight i is h)
  falls_down (suc n) items left h l = fall_step n (falls_down n) items left h l (find (is_unused (held_refers t) items) items) refl (find (uses_some (held_refers t) items) items) refl

  -- keys of which none is used by what is left, one by one
  abbrev none_of : List Key → Left → Left
  none_of [] left = left
  none_of (k ∷ ks) left = none_of ks (set_left k None left)

  abbrev IsFree : Left → Key → Type 0
  IsFree left k = (u : Key) (f : Entry) (c : Content) → left u ≡ Some false → entry_of t u ≡ Some f → held_of f ≡ Some c → refers c k ≡ false

  was_left : (k q : Key) (b : Bool) (left : Left) → set_left k None left q ≡ Some b → left q ≡ Some b
  was_left k q b left h = elim (cases_Bool (is_key q k)) [
    | inl x ↦ (let y = sym (cond-true (is_key q k) None (left q) x) ∙ h in cc)
    | inr x ↦ sym (cond-false (is_key q k) None (left q) x) ∙ h
  ]

  removes_down : (ks : List Key) (left : Left) → AreDistinct ks → ((k : Key) → IsIn k ks → (at_key t is_falling k ≡ true) × (left k ≡ Some false) × IsFree left k) → IsDown t left (plain_removes ks) (none_of ks left)
  removes_down [] left d h = no_more left
  removes_down (k ∷ ks) left d h =
      let x = h k (inl refl) in
      let y = some_passed is_falling (entry_of t k) x.0 in
      remove left (none_of ks (set_left k None left)) k false (plain_removes ks) y.0 y.1 y.2 x.1 x.2
      (removes_down ks (set_left k None left) d.1 (λ j i.
      let z = h j (inr i) in
      (z.0, cond-false (is_key j k) None (left j) (false_from_ne_true (is_key j k) (λ e. d.0 (subst (λ (q : Key). IsIn q ks) (one_key j k e) i))) ∙ z.1, λ u f c a b g. z.2 u f c (was_left k u false left a) b g)))

  none_kept : (ks : List Key) (left : Left) (q : Key) → left q ≡ None → none_of ks left q ≡ None
  none_kept [] left q h = h
  none_kept (k ∷ ks) left q h = none_kept ks (set_left k None left) q (elim (is_key q k) as (λ b. cond b None (left q) ≡ None) [ true ↦ refl | false ↦ h ])

  none_in : (ks : List Key) (left : Left) (q : Key) → IsIn q ks → none_of ks left q ≡ None
  none_in [] left q i = absurd i
  none_in (k ∷ ks) left q (inl e) = none_kept ks (set_left k None left) q (cond-true (is_key q k) None (left q) (key_same q k (sym e)))
  none_in (k ∷ ks) left q (inr i) = none_in ks (set_left k None left) q i

  none_out : (ks : List Key) (left : Left) (q : Key) → (IsIn q ks → ⊥) → none_of ks left q ≡ left q
  none_out [] left q n = refl
  none_out (k ∷ ks) left q n = none_out ks (set_left k None left) q (λ i. n (inr i)) ∙ cond-false (is_key q k) None (left q) (false_from_ne_true (is_key q k) (λ e. n (inl (sym (one_key q k e)))))

  pub downs_more : (left mid last : Left) (ds es : List Down) → IsDown t left ds mid → IsDown t mid es last → IsDown t left (ds ++ es) last
  downs_more left mid last ds es (no_more l) b = b
  downs_more left mid last ds es (clear l m k fs e x y z a) b = clear l last k (fs ++ es) e x y z (downs_more (set_left k (Some true) l) m last fs es a b)
  downs_more left mid last ds es (remove l m k c fs e x y z w a) b = remove l last k c (fs ++ es) e x y z w (downs_more (set_left k None l) m last fs es a b)

  pub fallen : (kd : Kind) (k : Key) → IsIn k (keys_where t (falling_of kd)) → (at_key t is_falling k ≡ true) × (k.kind ≡ kd)
  fallen kd k i =
      let x = in_where t (falling_of kd) k i in
      let h = falling_both kd k.kind x.0 x.2 in
      (at_is t is_falling k x.0 true x.1 h.1, h.0)

  pub falling_in : (kd : Kind) (k : Key) → k.kind ≡ kd → at_key t is_falling k ≡ true → IsIn k (keys_where t (falling_of kd))
  falling_in kd k e h =
      let p = some_passed is_falling (entry_of t k) h in
      where_in t (falling_of kd) k p.0 p.1 (subst (λ (x : Kind). falling_of kd (record { kind = x; id = k.id }) p.0 ≡ true) (sym e) (falling_self kd p.0 p.2))

  -- the falling relations are the items at the start
  start_list : IsList t (start_left t) (falling_items t)
  start_list = record {
    falls = λ i n. let m = map_in (λ k. let x : Item = (k, false) in x) (keys_where t (falling_of kind.Relation)) i n in subst (λ (x : Key). (at_key t is_falling x ≡ true) × (x.kind ≡ kind.Relation)) (ap (λ (x : Item). x.0) m.2) (fallen kind.Relation m.0 m.1);
    listed = λ k b e h. let x = to_go_some (at_key t is_falling k) b h in subst (λ (c : Bool). IsIn (k, c) (falling_items t)) (sym x.1) (in_map (λ k. let x : Item = (k, false) in x) (keys_where t (falling_of kind.Relation)) k (falling_in kind.Relation k e x.0));
    lefts = λ i n. let m = map_in (λ k. let x : Item = (k, false) in x) (keys_where t (falling_of kind.Relation)) i n in subst (λ (x : Item). start_left t x.0 ≡ Some x.1) m.2 (ap to_go (fallen kind.Relation m.0 m.1).0);
  }

  pub items_weight : (ks : List Key) → weight (map (λ k. let x : Item = (k, false) in x) ks) ≡ length ks + length ks
  items_weight [] = refl
  items_weight (k ∷ ks) = omega (arith, items_weight ks)

  -- The steps down are in a good order, and leave nothing.
  pub downs_ordered : (last : Left) × IsDown t (start_left t) (downs t) last × ((k : Key) → last k ≡ None)
  downs_ordered =
      let w = items_weight (keys_where t (falling_of kind.Relation)) in
      let r = falls_down (length (keys_where t (falling_of kind.Relation)) + length (keys_where t (falling_of kind.Relation))) (falling_items t) (start_left t) (omega (arith, w)) start_list in
      let ways = keys_where t (falling_of kind.Way) in
      let nodes = keys_where t (falling_of kind.Node) in
      let mid = none_of ways r.0 in
      let no_relation : (a : Kind) → kind_is a kind.Relation ≡ false → (k : Key) → k.kind ≡ a → k.kind ≡ kind.Relation → ⊥ = λ a n k e f. apart_kinds a kind.Relation k.kind e f n in
      let stands : (a : Kind) → kind_is a kind.Relation ≡ false → (k : Key) → k.kind ≡ a → at_key t is_falling k ≡ true → r.0 k ≡ Some false = λ a n k e f. r.2.same k (no_relation a n k e) ∙ ap to_go f in
      let gone_way : (k : Key) → k.kind ≡ kind.Way → mid k ≡ None = λ k e. elim (cases_Bool (at_key t is_falling k)) [
        | inl f ↦ none_in ways r.0 k (falling_in kind.Way k e f)
        | inr f ↦ none_kept ways r.0 k (r.2.same k (no_relation kind.Way refl k e) ∙ ap to_go f)
      ] in
      let d_ways = removes_down ways r.0 (distinct_where t (falling_of kind.Way)) (λ k i.
      let x = fallen kind.Way k i in (
        x.0,
        stands kind.Way refl k x.1 x.0,
        λ u f c a b g. elim (kinds u.kind) [
          | is_node z ↦ false_from_ne_true (refers c k) (λ h. node_refs c k (s.kinds u f c b (inr g) ∙ z) h)
          | is_way z ↦ false_from_ne_true (refers c k) (λ h. apart_kinds kind.Node kind.Way k.kind (way_refs c k (s.kinds u f c b (inr g) ∙ z) h) x.1 refl)
          | is_relation z ↦ none_some false (r.0 u) (r.2.gone u z) a
        ],
      )) in
      let d_nodes = removes_down nodes mid (distinct_where t (falling_of kind.Node)) (λ k i.
      let x = fallen kind.Node k i in (
        x.0,
        none_out ways r.0 k (λ j. apart_kinds kind.Node kind.Way k.kind x.1 (fallen kind.Way k j).1 refl) ∙ stands kind.Node refl k x.1 x.0,
        λ u f c a b g. elim (kinds u.kind) [
          | is_node z ↦ false_from_ne_true (refers c k) (λ h. node_refs c k (s.kinds u f c b (inr g) ∙ z) h)
          | is_way z ↦ none_some false (mid u) (gone_way u z) a
          | is_relation z ↦ none_some false (mid u) (none_kept ways r.0 u (r.2.gone u z)) a
        ],
      )) in (
        none_of nodes mid,
        downs_more (start_left t) r.0 (none_of nodes mid) _ _ r.1 (downs_more r.0 mid (none_of nodes mid) (plain_removes ways) (plain_removes nodes) d_ways d_nodes),
        λ k. elim (kinds k.kind) [
          | is_node z ↦ (elim (cases_Bool (at_key t is_falling k)) [
            | inl f ↦ none_in nodes mid k (falling_in kind.Node k z f)
            | inr f ↦ none_kept nodes mid k (none_kept ways r.0 k (r.2.same k (no_relation kind.Node refl k z) ∙ ap to_go f))
          ])
          | is_way z ↦ none_kept nodes mid k (gone_way k z)
          | is_relation z ↦ none_kept nodes mid k (none_kept ways r.0 k (r.2.gone k z))
        ],
      )
