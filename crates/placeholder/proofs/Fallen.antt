-- After one object was emptied or deleted on the server the table is again clear to be sent.
use Rattle.std.proofs.Common.{◌≡◌, Bool, true, false, List, [], ◌++◌, Option, Some, None, refl, sym, ◌∙◌, ap, subst, inl, inr}
use Rattle.std.proofs.lemmas.Bool.{or_cases, cases_Bool}
use Rattle.std.specs.Option.{option_map_or}
use Rattle.osm_base.specs.Rank.{is_key}
use Rattle.osm_base.specs.Content.{refers, kind_of_content}
use Rattle.osm_base.specs.declared.key.Kind.{Kind}
use Rattle.osm_base.specs.declared.key.Kind.TheVariants as kind
use Rattle.osm_base.specs.declared.key.Key.{Key}
use Rattle.osm_base.specs.declared.content.Content.{Content}
use Rattle.osm_base.proofs.RisingKeys.{one_key}
use Rattle.osm_base.proofs.Tests.{never, some_passed}
use Rattle.osm_table.specs.declared.entry.Entry.{Entry}
use Rattle.osm_table.specs.declared.entry.Entry.TheVariants.{Known}
use Rattle.osm_table.specs.declared.entry.Base.{Base}
use Rattle.osm_table.specs.declared.entry.Base.TheVariants.{New, Live, Gone}
use Rattle.osm_table.specs.Table.{mine_of, TableValue, entry_of, with_entry, held_by, version_of, is_new}
use Rattle.dataset.specs.Sound.{IsSound, HasVersion}
use Rattle.upload_order.specs.Bases.{base_in, is_based}
use Rattle.upload_order.specs.Kinds.{is_rising, is_update, is_falling, held_of, at_key, mine_refers}
use Rattle.upload_order.specs.Order.{peeled}
use Rattle.upload_order.specs.Plan.{ups, empty_relation}
use Rattle.upload_order.specs.Refused.{is_open}
use Rattle.upload_order.specs.World.{World, WorldEntry, Holds, Alone, put_in}
use Rattle.upload_order.specs.Pieces.{content_in}
use Rattle.upload_order.proofs.Along.{at_is}
use Rattle.upload_order.proofs.Basics.{both, none_some, at_key_put, at_other}
use Rattle.upload_order.proofs.Conditions.{Sound}
use Rattle.upload_order.proofs.Downs.{falling_based}
use Rattle.upload_order.proofs.PlanUps.{ups_ordered, ups_whole, ups_done, rising_mine, update_mine}
use Rattle.upload_order.proofs.Sounds.{sound_of}
use Rattle.upload_order.proofs.Static.{IsUp, IsOrdered, no_more}
use Rattle.upload_order.proofs.Where.{keys_where, rising_of, rising_both, in_where}
use Rattle.placeholder.proofs.Clear.{IsClear, no_member}
use Rattle.placeholder.proofs.Settled.{settled_sound, answered_down}
use Rattle.placeholder.proofs.Whole.{falling_none}

ordered_none : (t : TableValue) (done last : Key → Bool) → IsOrdered t done [] last → (k : Key) → last k ≡ done k
ordered_none t done last (no_more d) k = refl

module _ (t : TableValue) (is : IsSound t) (ok : IsClear t) (k : Key) (e : Entry) (entry : entry_of t k ≡ Some e) (down : is_falling e ≡ true) (none : ups t ≡ [])
    (b : Base) (not_new : is_new b ≡ false) (holds_empty : (d : Content) → held_by b ≡ Some d → (d ≡ empty_relation) × (k.kind ≡ kind.Relation)) (version : HasVersion b) where
  abbrev s : Sound t
  s = sound_of t is

  abbrev e2 : Entry
  e2 = Known b None None

  abbrev pub answered : TableValue
  answered = with_entry t k e2

  at_u : (j : Key) → is_key j k ≡ true → entry_of answered j ≡ Some e2
  at_u j i = at_key_put t.entries k j e2 i

  off_u : (j : Key) → is_key j k ≡ false → entry_of answered j ≡ entry_of t j
  off_u j i = at_other t.entries k j e2 i

  cases_u : (P : Key → Entry → Type 0) → ((j : Key) (f : Entry) → is_key j k ≡ false → entry_of t j ≡ Some f → P j f) → P k e2 → (j : Key) (f : Entry) → entry_of answered j ≡ Some f → P j f
  cases_u P there here j f h = elim (cases_Bool (is_key j k)) [
    | inl i ↦ subst (λ (x : Key). P x f) (sym (one_key j k i)) (subst (λ (x : Entry). P k x) (both e2 f (entry_of answered j) (at_u j i) h) here)
    | inr i ↦ there j f i (sym (off_u j i) ∙ h)
  ]

  idle_base : (b : Base) → is_new b ≡ false → (is_rising (Known b None None) ≡ false) × (is_update (Known b None None) ≡ false) × (is_based (Known b None None) ≡ true)
  idle_base New h = cc
  idle_base (Live v c m) h = (refl, refl, refl)
  idle_base (Gone v m) h = (refl, refl, refl)

  -- nothing is left to be created or changed
  no_up : (j : Key) (f : Entry) (c : Content) → IsUp t j f c → ⊥
  no_up j f c u = never (ups_done t s j) (ups_whole t s ok.no_stuck j f c u) (ordered_none t (λ _. false) (ups_done t s) (subst (λ (ks : List Key). IsOrdered t (λ _. false) ks (ups_done t s)) none (ups_ordered t s ok.no_stuck)) j)

  no_rising : (j : Key) (f : Entry) → entry_of answered j ≡ Some f → is_rising f ≡ true → ⊥
  no_rising j f h r = cases_u (λ j f. is_rising f ≡ true → ⊥) (λ j f n h r. let m = rising_mine f r (λ a c. (s.negative j f h a c).1) in no_up j f m.0 (record { entry = h; mine = m.1; up = inl r })) (λ r. never (is_rising e2) r (idle_base b not_new).0) j f h r

  no_update : (j : Key) (f : Entry) → entry_of answered j ≡ Some f → is_update f ≡ true → ⊥
  no_update j f h r = cases_u (λ j f. is_update f ≡ true → ⊥) (λ j f n h r. let m = update_mine f r in no_up j f m.0 (record { entry = h; mine = m.1; up = inr r })) (λ r. never (is_update e2) r (idle_base b not_new).1) j f h r

  none_rising : (kd : Kind) → keys_where answered (rising_of kd) ≡ []
  none_rising kd = no_member (keys_where answered (rising_of kd)) (λ x i. let y = in_where answered (rising_of kd) x i in no_rising x y.0 y.1 (rising_both kd x.kind y.0 y.2).1)

  none_updated : keys_where answered (λ j e. is_update e) ≡ []
  none_updated = no_member (keys_where answered (λ j e. is_update e)) (λ x i. let y = in_where answered (λ j e. is_update e) x i in no_update x y.0 y.1 y.2)

  pub ups_none : ups answered ≡ []
  ups_none = λ i. (none_rising kind.Node i ++ (none_rising kind.Way i ++ ((peeled (mine_refers answered) (none_rising kind.Relation i)).order ++ none_updated i)))

  pub sound_again : IsSound answered
  sound_again =
      let calm = ok.no_conflict k e entry in
      subst (λ (x : Entry). IsSound (with_entry t k x)) (answered_down b e down calm)
      (settled_sound t k e b is entry calm (falling_based e down) not_new version
      (λ d h. let z = holds_empty d h in (ap kind_of_content z.0 ∙ sym z.1, λ r x. never (refers d r) x (ap (λ (y : Content). refers y r) z.0)))
      (λ d h. none_some d (mine_of e) (falling_none e down) h))

  pub clear_again : IsClear answered
  clear_again = record {
    no_conflict = λ j f h. cases_u (λ j f. is_open f ≡ false) (λ j f n x. ok.no_conflict j f x) refl j f h;
    vouched = λ j r f d h m sent g i. absurd (elim (or_cases (is_rising f) (is_update f) sent) [ inl y ↦ no_rising j f h y | inr y ↦ no_update j f h y ]);
    no_stuck = ap (λ (xs : List Key). (peeled (mine_refers answered) xs).stuck) (none_rising kind.Relation);
  }

  module _ (w : World) (holds : Holds w t) (alone : Alone w t) where
    pub holds_again : Holds (put_in w k (version_of b) (held_by b)) answered
    holds_again j f h c = elim (cases_Bool (is_key j k)) [
      | inl i ↦ at_key_put w.entries k j _ i ∙ ap (λ (g : Entry). let x : WorldEntry = record { version = version_of (base_in g); content = held_of g } in Some x) (both e2 f (entry_of answered j) (at_u j i) h)
      | inr i ↦ at_other w.entries k j _ i ∙ holds j f (sym (off_u j i) ∙ h) c
    ]

    pub alone_again : Alone (put_in w k (version_of b) (held_by b)) answered
    alone_again q r d n h f =
        let away : is_key q k ≡ false = elim (cases_Bool (is_key q k)) [ inl i ↦ never (at_key answered is_based q) (at_is answered is_based q e2 true (at_u q i) (idle_base b not_new).2) n | inr i ↦ i ] in
        let p = some_passed is_falling (entry_of answered r) f in
        let fall : at_key t is_falling r ≡ true = cases_u (λ r g. is_falling g ≡ true → at_key t is_falling r ≡ true) (λ r g n h i. at_is t is_falling r g true h i) (λ i. at_is t is_falling k e true entry down) r p.0 p.1 p.2 in
        alone q r d (ap (λ (o : Option Entry). option_map_or is_based o false) (sym (off_u q away)) ∙ n) (sym (ap content_in (at_other w.entries k q _ away)) ∙ h) fall
