-- The first four parts of the plan are in a good order, and whole.
use Rattle.std.proofs.Common.{◌≡◌, Bool, true, false, List, [], map, length, Option, Some, None, refl, sym, ◌∙◌, ap, subst, ◌⊎◌, inl, inr}
use Rattle.std.proofs.lemmas.Bool.{false_from_ne_true}
use Rattle.osm_base.specs.Content.{refers, node, kind_of_content}
use Rattle.osm_base.specs.declared.key.Kind.{Kind}
use Rattle.osm_base.specs.declared.key.Kind.TheVariants as kind
use Rattle.osm_base.specs.declared.key.Key.{Key}
use Rattle.osm_base.specs.declared.content.Content.{Content}
use Rattle.osm_base.specs.declared.content.Content.TheVariants as content
use Rattle.osm_base.proofs.Tests.{never, some_passed}
use Rattle.osm_table.specs.declared.entry.Entry.{Entry}
use Rattle.osm_table.specs.declared.entry.Entry.TheVariants.{Incomplete, Known}
use Rattle.osm_table.specs.declared.entry.Base.TheVariants.{New, Live, Gone}
use Rattle.osm_table.specs.Table.{TableValue, entry_of, mine_of, is_new, is_incomplete}
use Rattle.upload_order.proofs.Where.{rising_both, rising_self, rising_of, keys_where, distinct_where, in_where, where_in}
use Rattle.upload_order.specs.Kinds.{mine_refers, content_refers, at_key, is_rising, is_update}
use Rattle.dataset.specs.Exact.{mine_at}
use Rattle.upload_order.specs.Plan.{made, ups}
use Rattle.upload_order.proofs.Basics.{both}
use Rattle.upload_order.proofs.Entries.{IsIn, any_in, map_in}
use Rattle.upload_order.proofs.Static.{IsUp, IsOrdered}
use Rattle.upload_order.proofs.Along.{at_is}
use Rattle.upload_order.proofs.Peel.{all_with, all_done, all_in, all_cases, ordered_more, part_ordered, peel_ordered, peel_all, peel_from}
use Rattle.upload_order.proofs.Turn.{not_update}
use Rattle.upload_order.specs.Bases.{base_in}
use Rattle.upload_order.proofs.Conditions.{Sound}

abbrev pub kind_is : Kind → Kind → Bool
kind_is kind.Node kind.Node = true
kind_is kind.Way kind.Way = true
kind_is kind.Relation kind.Relation = true
kind_is a b = false

pub kind_self : (a : Kind) → kind_is a a ≡ true
kind_self kind.Node = refl
kind_self kind.Way = refl
kind_self kind.Relation = refl

-- a node refers to nothing, and a way to nodes
pub node_refs : (c : Content) (r : Key) → kind_of_content c ≡ kind.Node → refers c r ≡ true → ⊥
node_refs (content.Node tags at) r e h = cc
node_refs (content.Way tags refs) r e h = let f = ap (λ k. kind_is k kind.Node) e in cc
node_refs (content.Relation tags members) r e h = let f = ap (λ k. kind_is k kind.Node) e in cc

pub way_refs : (c : Content) (r : Key) → kind_of_content c ≡ kind.Way → refers c r ≡ true → r.kind ≡ kind.Node
way_refs (content.Node tags at) r e h = cc
way_refs (content.Way tags refs) r e h = let m = map_in node refs r (any_in (map node refs) r h) in ap (λ (k : Key). k.kind) (sym m.2)
way_refs (content.Relation tags members) r e h = let f = ap (λ k. kind_is k kind.Way) e in cc

pub content_is : (o : Option Content) (r : Key) → content_refers o r ≡ true → (c : Content) × (o ≡ Some c) × (refers c r ≡ true)
content_is None r e = cc
content_is (Some c) r e = (c, refl, e)

pub entry_is : (o : Option Entry) (c : Content) → mine_at o ≡ Some c → (e : Entry) × (o ≡ Some e) × (mine_of e ≡ Some c)
entry_is None c e = cc
entry_is (Some f) c e = (f, refl, e)

pub rising_mine : (e : Entry) → is_rising e ≡ true → (is_new (base_in e) ≡ true → is_incomplete e ≡ false → (c : Content) × (mine_of e ≡ Some c)) → (c : Content) × (mine_of e ≡ Some c)
rising_mine Incomplete h f = cc
rising_mine (Known New m d) h f = f refl refl
rising_mine (Known (Live v b n) m d) h f = cc
rising_mine (Known (Gone v n) None d) h f = cc
rising_mine (Known (Gone v n) (Some c) d) h f = (c, refl)

pub update_mine : (e : Entry) → is_update e ≡ true → (c : Content) × (mine_of e ≡ Some c)
update_mine Incomplete h = cc
update_mine (Known New m d) h = cc
update_mine (Known (Live v b n) None d) h = cc
update_mine (Known (Live v b n) (Some c) d) h = (c, refl)
update_mine (Known (Gone v n) m d) h = cc

pub apart_kinds : {P : Type 0} (a b c : Kind) → c ≡ a → c ≡ b → kind_is a b ≡ false → P
apart_kinds a b c e f n = never (kind_is a b) (subst (λ (x : Kind). kind_is a x ≡ true) (sym e ∙ f) (kind_self a)) n

module _ (t : TableValue) (s : Sound t) where
  abbrev nodes : List Key
  nodes = keys_where t (rising_of kind.Node)

  abbrev ways : List Key
  ways = keys_where t (rising_of kind.Way)

  abbrev order : List Key
  order = (made t).order

  abbrev updates : List Key
  updates = keys_where t (λ k e. is_update e)

  abbrev none_done : Key → Bool
  none_done _ = false

  abbrev nodes_done : Key → Bool
  nodes_done = all_with nodes none_done

  abbrev ways_done : Key → Bool
  ways_done = all_with ways nodes_done

  abbrev relations_done : Key → Bool
  relations_done = all_with order ways_done

  abbrev pub ups_done : Key → Bool
  ups_done = all_with updates relations_done

  -- what a reference of a mine is
  pub mine_ref : (k r : Key) → mine_refers t k r ≡ true → (c : Content) × (kind_of_content c ≡ k.kind) × (refers c r ≡ true)
  mine_ref k r h =
      let x = content_is (mine_at (entry_of t k)) r h in
      let e = entry_is (entry_of t k) x.0 x.1 in
      (x.0, s.kinds k e.0 x.0 e.1 (inl e.2), x.2)

  pub risen : (kd : Kind) (k : Key) → IsIn k (keys_where t (rising_of kd)) → ((e : Entry) × (c : Content) × IsUp t k e c) × (k.kind ≡ kd) × (at_key t is_rising k ≡ true)
  risen kd k i =
      let x = in_where t (rising_of kd) k i in
      let h = rising_both kd k.kind x.0 x.2 in
      let m = rising_mine x.0 h.1 (λ n j. (s.negative k x.0 x.1 n j).1) in
      ((x.0, m.0, record { entry = x.1; mine = m.1; up = inl h.1 }), h.0, at_is t is_rising k x.0 true x.1 h.1)

  pub rising_in : (k : Key) → at_key t is_rising k ≡ true → IsIn k (keys_where t (rising_of k.kind))
  rising_in k h = let p = some_passed is_rising (entry_of t k) h in where_in t (rising_of k.kind) k p.0 p.1 (rising_self k.kind p.0 p.2)

  pub rising_at : (kd : Kind) (k : Key) → k.kind ≡ kd → at_key t is_rising k ≡ true → IsIn k (keys_where t (rising_of kd))
  rising_at kd k e h = subst (λ (x : Kind). IsIn k (keys_where t (rising_of x))) e (rising_in k h)

  nodes_only : (k : Key) → nodes_done k ≡ true → k.kind ≡ kind.Node
  nodes_only k h = elim (all_cases nodes none_done k h) [ inl i ↦ (risen kind.Node k i).1 | inr i ↦ cc ]

  ways_only : (k : Key) → ways_done k ≡ true → (k.kind ≡ kind.Node) ⊎ (k.kind ≡ kind.Way)
  ways_only k h = elim (all_cases ways nodes_done k h) [ inl i ↦ inr (risen kind.Way k i).1 | inr i ↦ inl (nodes_only k i) ]

  pub only_rising : (k : Key) → relations_done k ≡ true → at_key t is_rising k ≡ true
  only_rising k h = elim (all_cases order ways_done k h) [
    | inl i ↦ (risen kind.Relation k (peel_from t (length (keys_where t (rising_of kind.Relation))) (keys_where t (rising_of kind.Relation)) k i)).2
    | inr i ↦ (elim (all_cases ways nodes_done k i) [
      | inl j ↦ (risen kind.Way k j).2
      | inr j ↦ (elim (all_cases nodes none_done k j) [ inl l ↦ (risen kind.Node k l).2 | inr l ↦ cc ])
    ])
  ]

  node_done : (k : Key) → k.kind ≡ kind.Node → at_key t is_rising k ≡ true → nodes_done k ≡ true
  node_done k e h = all_in nodes none_done k (rising_at kind.Node k e h)

  way_done : (k : Key) → k.kind ≡ kind.Way → at_key t is_rising k ≡ true → ways_done k ≡ true
  way_done k e h = all_in ways nodes_done k (rising_at kind.Way k e h)

  part1 : IsOrdered t none_done nodes nodes_done
  part1 = part_ordered t nodes none_done (distinct_where t (rising_of kind.Node)) (λ k i.
      let x = risen kind.Node k i in
      (x.0, refl, λ r h g. let m = mine_ref k r h in absurd (node_refs m.0 r (m.1 ∙ x.1) m.2)))

  part2 : IsOrdered t nodes_done ways ways_done
  part2 = part_ordered t ways nodes_done (distinct_where t (rising_of kind.Way)) (λ k i.
      let x = risen kind.Way k i in
      (x.0, false_from_ne_true (nodes_done k) (λ h. apart_kinds kind.Node kind.Way k.kind (nodes_only k h) x.1 refl), λ r h g. let m = mine_ref k r h in node_done r (way_refs m.0 r (m.1 ∙ x.1) m.2) g))

  data Kinds (a : Kind) : Type 0 where
    is_node : a ≡ kind.Node → Kinds a
    is_way : a ≡ kind.Way → Kinds a
    is_relation : a ≡ kind.Relation → Kinds a

  kinds : (a : Kind) → Kinds a
  kinds kind.Node = is_node refl
  kinds kind.Way = is_way refl
  kinds kind.Relation = is_relation refl

  part3 : IsOrdered t ways_done order relations_done
  part3 = peel_ordered t (length (keys_where t (rising_of kind.Relation))) (keys_where t (rising_of kind.Relation)) ways_done (distinct_where t (rising_of kind.Relation))
      (λ k i. let x = risen kind.Relation k i in (
        x.0,
        false_from_ne_true (ways_done k) (λ h. elim (ways_only k h) [
          | inl j ↦ apart_kinds kind.Node kind.Relation k.kind j x.1 refl
          | inr j ↦ apart_kinds kind.Way kind.Relation k.kind j x.1 refl
        ]),
      ))
      (λ k r i h g. elim (kinds r.kind) [
        | is_node e ↦ inr (all_done ways nodes_done r (node_done r e g))
        | is_way e ↦ inr (way_done r e g)
        | is_relation e ↦ inl (rising_at kind.Relation r e g)
      ])

  module _ (clear : (made t).stuck ≡ []) where
    pub rising_done : (k : Key) → at_key t is_rising k ≡ true → relations_done k ≡ true
    rising_done k h = elim (kinds k.kind) [
      | is_node e ↦ all_done order ways_done k (all_done ways nodes_done k (node_done k e h))
      | is_way e ↦ all_done order ways_done k (way_done k e h)
      | is_relation e ↦ (elim (peel_all t (length (keys_where t (rising_of kind.Relation))) (keys_where t (rising_of kind.Relation)) k (rising_at kind.Relation k e h)) [
        | inl i ↦ all_in order ways_done k i
        | inr i ↦ absurd (subst (λ (ks : List Key). IsIn k ks) clear i)
      ])
    ]

    part4 : IsOrdered t relations_done updates ups_done
    part4 = part_ordered t updates relations_done (distinct_where t (λ k e. is_update e)) (λ k i.
        let x = in_where t (λ k e. is_update e) k i in
        let m = update_mine x.0 x.2 in (
          (x.0, m.0, record { entry = x.1; mine = m.1; up = inr x.2 }),
          false_from_ne_true (relations_done k) (λ h.
              let p = some_passed is_rising (entry_of t k) (only_rising k h) in
              let same : x.0 ≡ p.0 = both x.0 p.0 (entry_of t k) x.1 p.1 in
              never (is_update p.0) (ap is_update (sym same) ∙ x.2) (not_update p.0 p.2)),
          λ r h g. rising_done r g,
        ))

    pub ups_ordered : IsOrdered t (λ _. false) (ups t) ups_done
    ups_ordered = ordered_more t none_done nodes_done ups_done nodes _ part1 (ordered_more t nodes_done ways_done ups_done ways _ part2 (ordered_more t ways_done relations_done ups_done order updates part3 part4))

    pub ups_whole : (k : Key) (e : Entry) (c : Content) → IsUp t k e c → ups_done k ≡ true
    ups_whole k e c u = elim u.up [
      | inl r ↦ all_done updates relations_done k (rising_done k (at_is t is_rising k e true u.entry r))
      | inr r ↦ all_in updates relations_done k (where_in t (λ k e. is_update e) k e u.entry r)
    ]
