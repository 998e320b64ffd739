-- The changes of a plan stand in the table in an order in which each can be answered, on every server.
use Rattle.std.proofs.Common.{◌≡◌, ℕ, zero, suc, ◌+◌, Bool, true, false, cond, not, List, [], ◌∷◌, ◌++◌, map, length, Option, Some, None, refl, sym, ◌∙◌, ap, subst, ◌⊎◌, inl, inr}
use Rattle.std.proofs.lemmas.Bool.{cases_Bool}
use Rattle.std.specs.List.{find}
use Rattle.osm_base.specs.Rank.{is_key}
use Rattle.osm_base.specs.Content.{refers, fits}
use Rattle.osm_base.specs.declared.key.Kind.TheVariants as kind
use Rattle.osm_base.specs.declared.key.Key.{Key}
use Rattle.osm_base.specs.declared.content.Content.{Content}
use Rattle.osm_base.proofs.RisingKeys.{one_key}
use Rattle.osm_base.proofs.Tests.{never, some_passed}
use Rattle.osm_table.specs.declared.entry.Entry.{Entry}
use Rattle.osm_table.specs.Table.{TableValue, entry_of, mine_of, version_of, is_new, is_incomplete, IsPositive}
use Rattle.dataset.specs.Sound.{IsSound}
use Rattle.upload_order.specs.declared.change.Change.{Change}
use Rattle.upload_order.specs.declared.change.Change.TheVariants.{Create, Modify, Delete}
use Rattle.upload_order.specs.declared.down.Down.{Down}
use Rattle.upload_order.specs.declared.down.Down.TheVariants.{Clear, Remove}
use Rattle.upload_order.specs.Bases.{base_in, is_based}
use Rattle.upload_order.specs.Kinds.{at_key, is_rising, held_refers}
use Rattle.upload_order.specs.Fall.{Item, is_unused, uses_some, without_item, emptied, fall}
use Rattle.upload_order.specs.Pieces.{fall_next, fall_clear}
use Rattle.upload_order.specs.Plan.{plan, ups, downs, up_of, up_entry, down_of, empty_relation, plain_removes}
use Rattle.upload_order.specs.Refused.{is_open}
use Rattle.upload_order.proofs.Along.{at_is, new_rising, up_based}
use Rattle.upload_order.proofs.Basics.{both, key_same, with_cases, with_more}
use Rattle.upload_order.proofs.Conditions.{Sound}
use Rattle.upload_order.proofs.Downs.{falling_based}
use Rattle.upload_order.proofs.Entries.{IsIn, found_in, in_filter, map_in}
use Rattle.upload_order.proofs.Lists.{in_append}
use Rattle.upload_order.proofs.PlanDowns.{downs_ordered}
use Rattle.upload_order.proofs.PlanUps.{ups_ordered, ups_done}
use Rattle.upload_order.proofs.Sounds.{sound_of}
use Rattle.upload_order.proofs.Static.{IsUp, IsOrdered, no_more, next, with_key, Left, IsDown, clear, remove}
use Rattle.upload_order.proofs.Turn.{start_left}
use Rattle.upload_order.proofs.Where.{keys_where, falling_of, falling_items, falling_both, in_where}
use Rattle.upload_order.proofs.Ups.{up_case}
use Rattle.placeholder.proofs.Clear.{IsClear}
use Rattle.placeholder.proofs.Whole.{given_id, falling_none}

-- each reference is an id of a server, or a key made before
abbrev pub IsAfter : List Key → Content → Type 0
IsAfter made c = (r : Key) → refers c r ≡ true → (IsPositive r.id) ⊎ IsIn r made

-- an entry that has a base, and is not in conflict
pub record IsOn (t : TableValue) (k : Key) (o : Option Content) : Type 0 where
  pub entry : Entry
  pub there : entry_of t k ≡ Some entry
  pub based : is_based entry ≡ true
  pub settled : is_open entry ≡ false
  pub mine : mine_of entry ≡ o

-- a new object stands in the table as it is sent
pub record IsFirst (t : TableValue) (k : Key) (c : Content) : Type 0 where
  pub entry : Entry
  pub there : entry_of t k ≡ Some entry
  pub new : is_new (base_in entry) ≡ true
  pub mine : mine_of entry ≡ Some c
  pub fit : fits c ≡ true

-- what is changed has the content that is sent, or is a relation that is emptied
abbrev pub IsSentAs : TableValue → Key → Content → Type 0
IsSentAs t k c = ((IsOn t k (Some c)) × (fits c ≡ true)) ⊎ ((IsOn t k None) × (c ≡ empty_relation) × (k.kind ≡ kind.Relation))

-- Changes that can be answered one by one, where some objects were made before them.
abbrev pub AreSteady : TableValue → List Key → List Change → Type 0
AreSteady t made [] = Unit {0}
AreSteady t made (Create k c ∷ cs) = IsFirst t k c × (IsIn k made → ⊥) × IsAfter made c × AreSteady t (k ∷ made) cs
AreSteady t made (Modify k v c ∷ cs) = IsSentAs t k c × IsAfter made c × AreSteady t made cs
AreSteady t made (Delete k v ∷ cs) = IsOn t k None × AreSteady t made cs

-- who is cleared in a fall is among the items
fall_from : (uses : Key → Key → Bool) (n : ℕ) (items : List Item) (k : Key) → IsIn (Clear k) (fall uses n items) → (i : Item) × IsIn i items × (i.0 ≡ k)
fall_from uses zero items k x = absurd x
fall_from uses (suc n) items k x = by_found (λ left y. fall_from uses n left k y) (find (is_unused uses items) items) (find (uses_some uses items) items) refl x where
  by_found : ((left : List Item) → IsIn (Clear k) (fall uses n left) → (i : Item) × IsIn i left × (i.0 ≡ k)) → (o p : Option Item) → find (uses_some uses items) items ≡ p
      → IsIn (Clear k) (fall_next o (λ k. fall uses n (without_item k items)) (fall_clear p (λ k. fall uses n (map (emptied k) items)))) → (i : Item) × IsIn i items × (i.0 ≡ k)
  by_found go (Some i) p g (inl e) = absurd (let f : true ≡ false = ap is_remove e in cc) where
    is_remove : Down → Bool
    is_remove (Clear k) = false
    is_remove (Remove k b) = true
  by_found go (Some i) p g (inr y) = let z = go (without_item i.0 items) y in (z.0, (in_filter (λ j. not (is_key j.0 i.0)) items z.0 z.1).0, z.2)
  by_found go None None g y = absurd y
  by_found go None (Some i) g (inl e) = (i, (found_in (uses_some uses items) items i g).0, ap clear_key e) where
    clear_key : Down → Key
    clear_key (Clear k) = k
    clear_key (Remove k b) = k
  by_found go None (Some i) g (inr y) =
      let z = go (map (emptied i.0) items) y in
      let m = map_in (emptied i.0) items z.0 z.1 in
      (m.0, m.1, ap (λ (j : Item). j.0) m.2 ∙ z.2)

plain_no_clear : (ks : List Key) (k : Key) → IsIn (Clear k) (plain_removes ks) → ⊥
plain_no_clear [] k x = x
plain_no_clear (j ∷ js) k (inl e) = let f : true ≡ false = ap is_remove e in cc where
  is_remove : Down → Bool
  is_remove (Clear k) = false
  is_remove (Remove k b) = true
plain_no_clear (j ∷ js) k (inr x) = plain_no_clear js k x

-- what is emptied is a relation
clears_relations : (t : TableValue) (k : Key) → IsIn (Clear k) (downs t) → k.kind ≡ kind.Relation
clears_relations t k x =
    let relations = keys_where t (falling_of kind.Relation) in
    let ways = plain_removes (keys_where t (falling_of kind.Way)) in
    let nodes = plain_removes (keys_where t (falling_of kind.Node)) in
    elim (in_append (fall (held_refers t) (length relations + length relations) (falling_items t)) (ways ++ nodes) (Clear k) x) [
      | inl y ↦ (
          let i = fall_from (held_refers t) (length relations + length relations) (falling_items t) k y in
          let m = map_in (λ j. let z : Item = (j, false) in z) relations i.0 i.1 in
          let e = in_where t (falling_of kind.Relation) m.0 m.1 in
          sym (ap (λ (z : Key). z.kind) (ap (λ (z : Item). z.0) m.2 ∙ i.2)) ∙ (falling_both kind.Relation m.0.kind e.0 e.2).0)
      | inr y ↦ (elim (in_append ways nodes (Clear k) y) [ inl z ↦ absurd (plain_no_clear (keys_where t (falling_of kind.Way)) k z) | inr z ↦ absurd (plain_no_clear (keys_where t (falling_of kind.Node)) k z) ])
    ]

module _ (t : TableValue) (is : IsSound t) (ok : IsClear t) where
  abbrev s : Sound t
  s = sound_of t is

  -- the new keys that are done are those that were made
  record AreMade (done : Key → Bool) (made : List Key) : Type 0 where
    all : (r : Key) → done r ≡ true → (e : Entry) → entry_of t r ≡ Some e → is_new (base_in e) ≡ true → IsIn r made
    only : (r : Key) → IsIn r made → done r ≡ true

  made_more : (k : Key) (done : Key → Bool) (made : List Key) → AreMade done made → AreMade (with_key k done) (k ∷ made)
  made_more k done made a = record {
    all = λ r d e h n. elim (with_cases (is_key r k) (done r) d) [ inl i ↦ inl (sym (one_key r k i)) | inr i ↦ inr (a.all r i e h n) ];
    only = λ r i. with_on (is_key r k) (done r) (elim i [ inl e ↦ inl (is_self r k e) | inr j ↦ inr (a.only r j) ]);
  } where
    is_self : (r k : Key) → k ≡ r → is_key r k ≡ true
    is_self r k e = key_same r k (sym e)

    with_on : (b d : Bool) → (b ≡ true) ⊎ (d ≡ true) → cond b true d ≡ true
    with_on true d h = refl
    with_on false d (inl h) = cc
    with_on false d (inr h) = h

  made_same : (k : Key) (e : Entry) (done : Key → Bool) (made : List Key) → entry_of t k ≡ Some e → is_new (base_in e) ≡ false → AreMade done made → AreMade (with_key k done) made
  made_same k e done made h n a = record {
    all = λ r d f g m. elim (with_cases (is_key r k) (done r) d) [
      | inl i ↦ never (is_new (base_in f)) m (ap (λ (x : Entry). is_new (base_in x)) (both f e (entry_of t k) (ap (entry_of t) (sym (one_key r k i)) ∙ g) h) ∙ n)
      | inr i ↦ a.all r i f g m
    ];
    only = λ r i. with_more (is_key r k) (done r) (a.only r i);
  }

  -- the references of what comes next
  after_made : (done : Key → Bool) (made : List Key) (k : Key) (e : Entry) (c : Content) → IsUp t k e c → ((r : Key) → refers c r ≡ true → at_key t is_rising r ≡ true → done r ≡ true) → AreMade done made → IsAfter made c
  after_made done made k e c u h a r x = elim (s.refs k r e c u.entry u.mine x) [
    | inl i ↦ (let y = some_passed is_incomplete (entry_of t r) i in inl (given_id t is r y.0 y.1 (inl y.2)))
    | inr l ↦ (elim (cases_Bool (is_new (base_in l.0))) [
      | inl n ↦ inr (a.all r (h r x (at_is t is_rising r l.0 true l.2 (new_rising l.0 l.1 l.3 n))) l.0 l.2 n)
      | inr n ↦ inl (given_id t is r l.0 l.2 (inr (up_based l.0 l.1 l.3 n)))
    ])
  ]

  downs_steady : (left last : Left) (made : List Key) (ds : List Down) → IsDown t left ds last → ((k : Key) → IsIn (Clear k) ds → k.kind ≡ kind.Relation) → AreSteady t made (map (down_of t) ds)
  downs_steady left last made ds (no_more l) h = tt
  downs_steady left last made ds (clear l m k es e x y z a) h = (
    inr (record { entry = e; there = x; based = falling_based e y; settled = ok.no_conflict k e x; mine = falling_none e y }, refl, h k (inl refl)),
    λ r i. cc,
    downs_steady _ m made es a (λ j i. h j (inr i)),
  )
  downs_steady left last made ds (remove l m k b es e x y z w a) h = (
    record { entry = e; there = x; based = falling_based e y; settled = ok.no_conflict k e x; mine = falling_none e y },
    downs_steady _ m made es a (λ j i. h j (inr i)),
  )

  ups_steady : (made : List Key) (done last : Key → Bool) (ks : List Key) (ds : List Change) → IsOrdered t done ks last → AreMade done made → ((made : List Key) → AreSteady t made ds) → AreSteady t made (map (up_of t) ks ++ ds)
  ups_steady made done last ks ds (no_more d) a rest = rest made
  ups_steady made done last ks ds (next d l k js e c u free h o) a rest =
      let change : up_of t k ≡ cond (is_new (base_in e)) (Create k c) (Modify k (version_of (base_in e)) c) = ap (up_entry k) u.entry ∙ up_case k e c u.mine in
      subst (λ (x : Change). AreSteady t made (x ∷ (map (up_of t) js ++ ds))) (sym change) (by_base (λ m b. ups_steady m (with_key k d) l js ds o b rest) (is_new (base_in e)) refl) where
        by_base : ((m : List Key) → AreMade (with_key k d) m → AreSteady t m (map (up_of t) js ++ ds)) → (b : Bool) → is_new (base_in e) ≡ b → AreSteady t made (cond b (Create k c) (Modify k (version_of (base_in e)) c) ∷ (map (up_of t) js ++ ds))
        by_base go true n = (
          record { entry = e; there = u.entry; new = n; mine = u.mine; fit = s.fit k e c u.entry u.mine u.up },
          λ i. never (d k) (a.only k i) free,
          after_made d made k e c u h a,
          go (k ∷ made) (made_more k d made a),
        )
        by_base go false n = (
          inl (record { entry = e; there = u.entry; based = up_based e c u.mine n; settled = ok.no_conflict k e u.entry; mine = u.mine }, s.fit k e c u.entry u.mine u.up),
          after_made d made k e c u h a,
          go made (made_same k e d made u.entry n a),
        )

  -- The changes of the plan are steady.
  pub plan_steady : AreSteady t [] (plan t)
  plan_steady =
      let o = downs_ordered t s in
      ups_steady [] (λ _. false) (ups_done t s) (ups t) (map (down_of t) (downs t)) (ups_ordered t s ok.no_stuck) (record { all = λ r d e h n. cc; only = λ r i. absurd i })
      (λ made. downs_steady (start_left t) o.0 made (downs t) o.1 (clears_relations t))
