-- After one object was changed on the server the table is again clear to be sent, and its plan is the rest.
use Rattle.std.proofs.Common.{◌≡◌, ◌+◌, ◌≤◌, Bool, true, false, not, List, ◌∷◌, ◌++◌, map, length, Option, Some, None, refl, sym, ◌∙◌, ap, subst, inl, inr, arith}
use Rattle.std.proofs.lemmas.Bool.{and_parts, and_from, cases_Bool}
use Rattle.std.specs.Option.{option_map_or}
use Rattle.osm_base.specs.Rank.{is_key}
use Rattle.osm_base.specs.Content.{refers, fits}
use Rattle.osm_base.specs.Meta.{empty_meta}
use Rattle.osm_base.specs.declared.key.Kind.{Kind}
use Rattle.osm_base.specs.declared.key.Kind.TheVariants as kind
use Rattle.osm_base.specs.declared.key.Key.{Key}
use Rattle.osm_base.specs.declared.content.Content.{Content}
use Rattle.osm_base.proofs.RisingKeys.{one_key, key_itself}
use Rattle.osm_base.proofs.SameLaws.{same_content_decides}
use Rattle.osm_base.proofs.Tests.{never, some_passed}
use Rattle.osm_table.specs.declared.entry.Entry.{Entry}
use Rattle.osm_table.specs.declared.entry.Entry.TheVariants.{Known}
use Rattle.osm_table.specs.declared.entry.Base.TheVariants.{Live}
use Rattle.osm_table.specs.Table.{TableValue, entry_of, with_entry, mine_of, version_of, is_new, is_incomplete, IsPositive}
use Rattle.dataset.specs.Exact.{mine_at}
use Rattle.dataset.specs.Sound.{IsSound}
use Rattle.upload_order.specs.declared.change.Change.{Change}
use Rattle.upload_order.specs.Bases.{base_in, is_based}
use Rattle.upload_order.specs.Kinds.{is_rising, is_update, is_falling, is_sent, held_of, held_at, at_key, content_refers, mine_refers, held_refers}
use Rattle.upload_order.specs.Fall.{Item, falls}
use Rattle.upload_order.specs.Order.{without}
use Rattle.upload_order.specs.Plan.{ups, up_of, up_entry, plain_removes, downs, down_of, version_at, plan}
use Rattle.upload_order.specs.Refused.{is_open, vouches, keeps}
use Rattle.upload_order.specs.Rename.{called}
use Rattle.renamed_content.specs.Renamed.{renamed}
use Rattle.upload_order.specs.World.{World, WorldEntry, Holds, Alone, put_in}
use Rattle.upload_order.specs.Pieces.{content_in}
use Rattle.upload_order.proofs.Along.{at_is, means_itself, new_rising, up_based}
use Rattle.upload_order.proofs.Basics.{both, at_key_put, at_other}
use Rattle.upload_order.proofs.Conditions.{Sound}
use Rattle.upload_order.proofs.Entries.{IsIn, map_in}
use Rattle.upload_order.proofs.PlanDowns.{downs_ordered}
use Rattle.upload_order.proofs.Renaming.{renamed_itself}
use Rattle.upload_order.proofs.Sounds.{sound_of, positive_is}
use Rattle.upload_order.proofs.Static.{IsUp}
use Rattle.upload_order.proofs.Where.{keys_where, rising_of, falling_of, falling_items, falling_both, in_where}
use Rattle.upload_order.proofs.Worlds.{called_meant}
use Rattle.upload_order.proofs.Turn.{mine_stays}
use Rattle.placeholder.proofs.Alike.{fall_same, steps_same, ups_same}
use Rattle.placeholder.proofs.Clear.{IsClear}
use Rattle.placeholder.proofs.Parts.{not_rising, not_falling}
use Rattle.placeholder.proofs.Rest.{same_where, without_where, ups_again, stuck_again, once, ordered}
use Rattle.placeholder.proofs.Settled.{IsServed, settled_sound, answered_up}
use Rattle.placeholder.proofs.Whole.{given_id, first_calm}

-- The first change of t changes the object of k on the server, and u has its answer.
module _ (t : TableValue) (is : IsSound t) (ok : IsClear t) (k : Key) (e : Entry) (c : Content) (up : IsUp t k e c) (old : is_new (base_in e) ≡ false) (ks : List Key) (head : ups t ≡ k ∷ ks) (bound : version_of (base_in e) + 1 ≤ 2000000000) where
  abbrev s : Sound t
  s = sound_of t is

  abbrev e2 : Entry
  e2 = Known (Live (version_of (base_in e) + 1) c empty_meta) (Some c) None

  abbrev pub answered : TableValue
  answered = with_entry t k e2

  at_u : (j : Key) → is_key j k ≡ true → entry_of answered j ≡ Some e2
  at_u j i = at_key_put t.entries k j e2 i

  off_u : (j : Key) → is_key j k ≡ false → entry_of answered j ≡ entry_of t j
  off_u j i = at_other t.entries k j e2 i

  -- an entry of u is the new one, or one of t
  cases_u : (P : Key → Entry → Type 0) → ((j : Key) (f : Entry) → is_key j k ≡ false → entry_of t j ≡ Some f → P j f) → P k e2 → (j : Key) (f : Entry) → entry_of answered j ≡ Some f → P j f
  cases_u P there here j f h = elim (cases_Bool (is_key j k)) [
    | inl i ↦ subst (λ (x : Key). P x f) (sym (one_key j k i)) (subst (λ (x : Entry). P k x) (both e2 f (entry_of answered j) (at_u j i) h) here)
    | inr i ↦ there j f i (sym (off_u j i) ∙ h)
  ]

  back : (test : Key → Entry → Bool) → ((j : Key) → test j e2 ≡ false) → (j : Key) (f : Entry) → entry_of answered j ≡ Some f → test j f ≡ true → (is_key j k ≡ false) × ((g : Entry) × (entry_of t j ≡ Some g) × (test j g ≡ true))
  back test idle j f h g = elim (cases_Bool (is_key j k)) [
    | inl i ↦ never (test j f) g (ap (test j) (both f e2 (entry_of answered j) h (at_u j i)) ∙ idle j)
    | inr i ↦ (i, (f, sym (off_u j i) ∙ h, g))
  ]

  rising : (kd : Kind) → without k (keys_where t (rising_of kd)) ≡ keys_where answered (rising_of kd)
  rising kd = without_where t answered k (rising_of kd) (rising_of kd) (λ j f n h g. (f, off_u j n ∙ h, g)) (back (rising_of kd) (λ j. not_rising kd j.kind e2 refl))

  no_update : is_update e2 ≡ false
  no_update = ap not ((same_content_decides c c).1 refl)

  updates : without k (keys_where t (λ j e. is_update e)) ≡ keys_where answered (λ j e. is_update e)
  updates = without_where t answered k (λ j e. is_update e) (λ j e. is_update e) (λ j f n h g. (f, off_u j n ∙ h, g)) (back (λ j e. is_update e) (λ j. no_update))

  same : (j r : Key) → IsIn j (keys_where answered (rising_of kind.Relation)) → IsIn r (keys_where answered (rising_of kind.Relation)) → mine_refers t j r ≡ mine_refers answered j r
  same j r a b =
      let x = in_where answered (rising_of kind.Relation) j a in
      let y = back (rising_of kind.Relation) (λ j. not_rising kind.Relation j.kind e2 refl) j x.0 x.1 x.2 in
      ap (λ o. content_refers (mine_at o) r) (sym (off_u j y.0))

  pub ups_rest : ups answered ≡ ks
  ups_rest = ups_again t answered s ok.no_stuck k ks head rising updates same

  -- k doesn't fall
  not_fallen : (j : Key) (f : Entry) → entry_of t j ≡ Some f → is_falling f ≡ true → is_key j k ≡ false
  not_fallen j f h g = elim (cases_Bool (is_key j k)) [
    | inl i ↦ never (is_falling f) g (ap is_falling (both f e (entry_of t k) (ap (entry_of t) (sym (one_key j k i)) ∙ h) up.entry) ∙ mine_stays e c up.mine)
    | inr i ↦ i
  ]

  falling : (kd : Kind) → keys_where t (falling_of kd) ≡ keys_where answered (falling_of kd)
  falling kd = same_where t answered (falling_of kd) (falling_of kd)
      (λ j f h g. (f, off_u j (not_fallen j f h (falling_both kd j.kind f g).1) ∙ h, g))
      (λ j f h g. (back (falling_of kd) (λ j. not_falling kd j.kind e2 refl) j f h g).1)

  held_same : (i j : Item) → IsIn i (falling_items t) → IsIn j (falling_items t) → held_refers t i.0 j.0 ≡ held_refers answered i.0 j.0
  held_same i j a b =
      let m = map_in (λ k. let x : Item = (k, false) in x) (keys_where t (falling_of kind.Relation)) i a in
      let x = in_where t (falling_of kind.Relation) m.0 m.1 in
      let n : is_key i.0 k ≡ false = ap (λ (y : Item). is_key y.0 k) (sym m.2) ∙ not_fallen m.0 x.0 x.1 (falling_both kind.Relation m.0.kind x.0 x.2).1 in
      ap (λ o. content_refers (held_at o) j.0) (sym (off_u i.0 n))

  pub downs_rest : downs t ≡ downs answered
  downs_rest =
      let relations : falls (held_refers t) (keys_where t (falling_of kind.Relation)) ≡ falls (held_refers answered) (keys_where answered (falling_of kind.Relation)) =
      fall_same t answered (length (keys_where t (falling_of kind.Relation)) + length (keys_where t (falling_of kind.Relation))) (falling_items t) held_same
      ∙ ap (λ (xs : List Key). falls (held_refers answered) xs) (falling kind.Relation) in
      λ i. relations i ++ (plain_removes (falling kind.Way i) ++ plain_removes (falling kind.Node i))

  -- The plan of u is the rest of the plan of t.
  pub plan_rest : plan t ≡ up_of t k ∷ plan answered
  plan_rest =
      let not_k : (j : Key) → IsIn j ks → is_key j k ≡ false = λ j i. elim (cases_Bool (is_key j k)) [
        | inl x ↦ absurd (once t answered s ok.no_stuck k ks head rising updates same (subst (λ (y : Key). IsIn y ks) (one_key j k x) i))
        | inr x ↦ x
      ] in
      let d = downs_ordered t s in
      ap (λ (xs : List Key). map (up_of t) xs ++ map (down_of t) (downs t)) head
      ∙ ap (λ (cs : List Change). up_of t k ∷ (cs ++ map (down_of t) (downs t))) (ups_same t answered ks (λ j i. ap (up_entry j) (sym (off_u j (not_k j i)))) ∙ ap (map (up_of answered)) (sym ups_rest))
      ∙ ap (λ (cs : List Change). up_of t k ∷ (map (up_of answered) (ups answered) ++ cs)) (steps_same t answered (λ j f h g. ap version_at (sym (off_u j (not_fallen j f h g)))) _ d.0 (downs t) d.1 ∙ ap (map (down_of answered)) downs_rest)

  based : is_based e ≡ true
  based = up_based e c up.mine old

  -- k comes first, so its mine refers to no rising key
  calm : (r : Key) → refers c r ≡ true → at_key t is_rising r ≡ true → ⊥
  calm r h g = first_calm t (λ _. false) _ k ks (ordered t answered s ok.no_stuck k ks head rising updates same) e c up.entry up.mine r h g refl

  positive_key : (r : Key) → refers c r ≡ true → IsPositive r.id
  positive_key r h = elim (s.refs k r e c up.entry up.mine h) [
    | inl i ↦ (let p = some_passed is_incomplete (entry_of t r) i in given_id t is r p.0 p.1 (inl p.2))
    | inr l ↦ (elim (cases_Bool (is_new (base_in l.0))) [
      | inl n ↦ absurd (calm r h (at_is t is_rising r l.0 true l.2 (new_rising l.0 l.1 l.3 n)))
      | inr n ↦ given_id t is r l.0 l.2 (inr (up_based l.0 l.1 l.3 n))
    ])
  ]

  one_content : (d : Content) → Some c ≡ Some d → c ≡ d
  one_content d h = both c d (Some c) refl h

  pub sound_again : IsSound answered
  sound_again =
      let calm_entry = ok.no_conflict k e up.entry in
      subst (λ (x : Entry). IsSound (with_entry t k x)) (answered_up (Live (version_of (base_in e) + 1) c empty_meta) e c up.mine calm_entry)
      (settled_sound t k e (Live (version_of (base_in e) + 1) c empty_meta) is up.entry calm_entry based refl (omega arith, bound)
      (λ d h. subst (IsServed k) (one_content d h) (s.kinds k e c up.entry (inl up.mine), positive_key))
      (λ d h. subst (λ (y : Content). fits y ≡ true) (both c d (mine_of e) up.mine h) (s.fit k e c up.entry up.mine up.up)))

  -- A voucher still vouches.
  vouches_again : (w r : Key) (f : Entry) → entry_of t w ≡ Some f → vouches f r ≡ true → (u : Key) × (g : Entry) × (entry_of answered u ≡ Some g) × (vouches g r ≡ true)
  vouches_again w r f h v = elim (cases_Bool (is_key w k)) [
    | inr i ↦ (w, f, off_u w i ∙ h, v)
    | inl i ↦ (
        let one : f ≡ e = both f e (entry_of t k) (ap (entry_of t) (sym (one_key w k i)) ∙ h) up.entry in
        let x = (and_parts (option_map_or (λ c. refers c r) (held_of e) false) (keeps (mine_of e) r) (ap (λ (y : Entry). vouches y r) (sym one) ∙ v)).1 in
        let y : refers c r ≡ true = ap (λ o. option_map_or (λ c. refers c r) o true) (sym up.mine) ∙ x in
        (k, e2, at_u k (key_itself k), and_from (refers c r) (refers c r) y y))
  ]

  pub clear_again : IsClear answered
  clear_again = record {
    no_conflict = λ j f h. cases_u (λ j f. is_open f ≡ false) (λ j f n x. ok.no_conflict j f x) refl j f h;
    vouched = λ j r f d h m sent g i. cases_u (λ j f. (d : Content) → mine_of f ≡ Some d → is_sent f ≡ true → refers d r ≡ true → (u : Key) × (g : Entry) × (entry_of answered u ≡ Some g) × (vouches g r ≡ true))
        (λ j f n x d m sent g.
        let away : is_key r k ≡ false = elim (cases_Bool (is_key r k)) [ inl y ↦ (let z : at_key answered is_incomplete r ≡ false = ap (λ (o : Option Entry). option_map_or is_incomplete o false) (at_u r y) in never (at_key answered is_incomplete r) i z) | inr y ↦ y ] in
        let v = ok.vouched j r f d x m sent g (ap (λ (o : Option Entry). option_map_or is_incomplete o false) (sym (off_u r away)) ∙ i) in
        vouches_again v.0 r v.1 v.2 v.3)
        (λ d m sent g. never (is_sent e2) sent no_update) j f h d m sent g;
    no_stuck = stuck_again t answered s ok.no_stuck k ks head rising updates same;
  }

  module _ (w : World) (holds : Holds w t) (alone : Alone w t) where
    abbrev w2 : World
    w2 = put_in w k (version_of (base_in e) + 1) (Some (renamed (called w.names) c))

    kept_refs : renamed (called w.names) c ≡ c
    kept_refs = renamed_itself (called w.names) c (λ r h. called_meant w.names r r (means_itself w.names r (positive_is r.id (positive_key r h))))

    pub holds_again : Holds w2 answered
    holds_again j f h b = elim (cases_Bool (is_key j k)) [
      | inl i ↦ (
          let one : e2 ≡ f = both e2 f (entry_of answered j) (at_u j i) h in
          at_key_put w.entries k j _ i
          ∙ ap (λ (d : Content). let x : WorldEntry = record { version = version_of (base_in e) + 1; content = Some d } in Some x) kept_refs
          ∙ ap (λ (g : Entry). let x : WorldEntry = record { version = version_of (base_in g); content = held_of g } in Some x) one)
      | inr i ↦ at_other w.entries k j _ i ∙ holds j f (sym (off_u j i) ∙ h) b
    ]

    pub alone_again : Alone w2 answered
    alone_again q r d n h f =
        let away : is_key q k ≡ false = elim (cases_Bool (is_key q k)) [ inl i ↦ (let z : at_key answered is_based q ≡ true = ap (λ (o : Option Entry). option_map_or is_based o false) (at_u q i) in never (at_key answered is_based q) z n) | inr i ↦ i ] in
        let p = some_passed is_falling (entry_of answered r) f in
        let g = back (λ j e. is_falling e) (λ j. refl) r p.0 p.1 p.2 in
        alone q r d (ap (λ (o : Option Entry). option_map_or is_based o false) (sym (off_u q away)) ∙ n) (sym (ap content_in (at_other w.entries k q _ away)) ∙ h) (at_is t is_falling r g.1.0 true g.1.1 g.1.2)
