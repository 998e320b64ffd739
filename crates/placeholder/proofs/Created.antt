-- After one object was made on the server the table is again clear to be sent, and its plan is the rest, renamed.
use Rattle.std.proofs.Common.{◌≡◌, ◌+◌, ℤ, Bool, true, false, cond, not, ◌&&◌, ◌||◌, List, [], ◌∷◌, ◌++◌, map, length, Option, Some, None, refl, sym, ◌∙◌, ap, subst, ◌⊎◌, inl, inr, arith}
use Rattle.std.proofs.lemmas.Bool.{cases_Bool, cond-true, cond-false, and_left}
use Rattle.std.specs.Option.{option_map, option_map_or, unwrap_or}
use Rattle.std.specs.Cmp.{both_ways}
use Rattle.std.specs.FinMap as fin
use Rattle.osm_base.specs.Rank.{is_key}
use Rattle.osm_base.specs.RankLaws.{rank_total}
use Rattle.osm_base.specs.Content.{refers, fits}
use Rattle.osm_base.specs.Meta.{empty_meta}
use Rattle.osm_base.specs.Same.{same_content}
use Rattle.osm_base.specs.declared.key.Kind.{Kind}
use Rattle.osm_base.specs.declared.key.Kind.TheVariants as kind
use Rattle.osm_base.specs.declared.key.Key.{Key}
use Rattle.osm_base.specs.declared.content.Content.{Content}
use Rattle.osm_base.proofs.RisingKeys.{one_key, key_itself}
use Rattle.osm_base.proofs.SameLaws.{same_content_decides}
use Rattle.osm_base.proofs.Tests.{never, some_passed}
use Rattle.osm_table.specs.declared.entry.Entry.{Entry}
use Rattle.osm_table.specs.declared.entry.Entry.TheVariants.{Incomplete, Known}
use Rattle.osm_table.specs.declared.entry.Base.TheVariants.{New, Live, Gone}
use Rattle.osm_table.specs.Table.{TableValue, entry_of, mine_of, version_of, is_new, is_incomplete, IsThere, IsPositive}
use Rattle.dataset.specs.Exact.{mine_at}
use Rattle.dataset.specs.Sound.{IsSound, IsSoundEntry, LivesIn}
use Rattle.upload_order.specs.declared.change.Change.{Change}
use Rattle.upload_order.specs.declared.change.Change.TheVariants.{Create}
use Rattle.upload_order.specs.declared.down.Down.{Down}
use Rattle.upload_order.specs.declared.down.Down.TheVariants.{Clear, Remove}
use Rattle.upload_order.specs.Bases.{base_in, is_based}
use Rattle.upload_order.specs.Kinds.{is_rising, is_update, is_falling, is_sent, held_of, held_at, at_key, content_refers, mine_refers, held_refers}
use Rattle.upload_order.specs.Fall.{Item, falls}
use Rattle.upload_order.specs.Order.{without}
use Rattle.upload_order.specs.Plan.{ups, up_of, up_entry, plain_removes, downs, down_of, version_at, plan}
use Rattle.upload_order.specs.Refused.{is_open, vouches}
use Rattle.upload_order.specs.Rename.{called, with_id, is_positive}
use Rattle.renamed_content.specs.Renamed.{renamed}
use Rattle.renamed_content.proofs.Refs.{renamed_kind}
use Rattle.upload_order.specs.World.{World, WorldEntry, stands, content_at, IsSoundWorld, Holds, Alone}
use Rattle.upload_order.specs.Pieces.{content_in}
use Rattle.upload_order.proofs.Along.{at_is, means_itself, not_based, new_rising, up_based, held_based}
use Rattle.upload_order.proofs.Basics.{key_same, both, none_some, at_key_put, at_other}
use Rattle.upload_order.proofs.Conditions.{Sound}
use Rattle.upload_order.proofs.Entries.{IsIn, map_in}
use Rattle.upload_order.proofs.PlanDowns.{downs_ordered}
use Rattle.upload_order.proofs.Renaming.{renamed_from, renamed_to, renamed_itself}
use Rattle.upload_order.proofs.Sounds.{sound_of, positive_is}
use Rattle.upload_order.proofs.Static.{IsOrdered, no_more, next, with_key}
use Rattle.upload_order.proofs.Local.{same_law}
use Rattle.upload_order.proofs.Turn.{mine_stays}
use Rattle.upload_order.proofs.Where.{keys_where, rising_of, falling_of, falling_items, falling_both, in_where}
use Rattle.upload_order.proofs.Worlds.{called_meant}
use Rattle.placeholder.specs.Confirmed.{moved, moved_entry, moved_entries, moved_change, confirmed}
use Rattle.placeholder.proofs.Alike.{fall_same, steps_same}
use Rattle.placeholder.proofs.Clear.{IsClear}
use Rattle.placeholder.proofs.Moved.{same_rising, same_falling, moved_mine, moved_held, get_moved, same_incomplete, same_based, same_version, same_version_at, same_open, fits_renamed, moved_sound, moved_there}
use Rattle.placeholder.proofs.Parts.{rising_alike, falling_alike, not_rising, not_falling}
use Rattle.placeholder.proofs.Rest.{same_where, without_where, ups_again, stuck_again, once, ordered}
use Rattle.placeholder.proofs.Whole.{given_id, all_refs, stands_there, used_ref, first_calm}

pub ordered_up : (t : TableValue) (done last : Key → Bool) (ks : List Key) → IsOrdered t done ks last → (j : Key) → IsIn j ks → (e : Entry) × (entry_of t j ≡ Some e)
ordered_up t done last ks (no_more d) j i = absurd i
ordered_up t done last ks (next d l k js e c u free h a) j (inl x) = (e, ap (entry_of t) (sym x) ∙ u.entry)
ordered_up t done last ks (next d l k js e c u free h a) j (inr i) = ordered_up t (with_key k d) l js a j i

module _ (k : Key) (p : ℤ) (negative : is_positive k.id ≡ false) where
  abbrev q : Key
  q = with_id k p

  abbrev f : Key → Key
  f = moved k p

  pub f_other : (r : Key) → is_key r k ≡ false → f r ≡ r
  f_other r n = pick (is_positive r.id) (is_key r k) r n where
    pick : (a b : Bool) (r : Key) → b ≡ false → with_id r (unwrap_or (cond a (Some r.id) (cond b (Some p) None)) r.id) ≡ r
    pick true b r e = refl
    pick false true r e = cc
    pick false false r e = refl

  pub f_here : (r : Key) → is_key r k ≡ true → f r ≡ q
  f_here r h = ap f (one_key r k h) ∙ pick (is_positive k.id) (is_key k k) negative (key_itself k) where
    pick : (a b : Bool) → a ≡ false → b ≡ true → with_id k (unwrap_or (cond a (Some k.id) (cond b (Some p) None)) k.id) ≡ q
    pick true b g e = cc
    pick false true g e = refl
    pick false false g e = cc

  -- other references stay
  renamed_other : (c : Content) (r : Key) → is_key r k ≡ false → is_key r q ≡ false → refers (renamed f c) r ≡ refers c r
  renamed_other c r n m = both_ways (refers (renamed f c) r) (refers c r)
      (λ h.
      let x = renamed_from ((k, p) ∷ []) c r h in
      elim (cases_Bool (is_key x.0 k)) [
        | inl i ↦ never (is_key r q) (key_same r q (sym x.2 ∙ f_here x.0 i)) m
        | inr i ↦ subst (λ (y : Key). refers c y ≡ true) (sym (f_other x.0 i) ∙ x.2) x.1
      ])
      (λ h. subst (λ (y : Key). refers (renamed f c) y ≡ true) (f_other r n) (renamed_to ((k, p) ∷ []) c r h))

  refers_other : (o : Option Content) (r : Key) → is_key r k ≡ false → is_key r q ≡ false → content_refers (option_map (renamed f) o) r ≡ content_refers o r
  refers_other None r n m = refl
  refers_other (Some c) r n m = renamed_other c r n m

  -- a content without k stays
  renamed_free : (c : Content) → refers c k ≡ false → renamed f c ≡ c
  renamed_free c n = renamed_itself f c (λ r h. f_other r (elim (cases_Bool (is_key r k)) as (λ _. is_key r k ≡ false) [ inl i ↦ never (refers c r) h (ap (refers c) (one_key r k i) ∙ n) | inr i ↦ i ]))

  -- a renamed mine never comes to equal its base
  same_again : (c b : Content) → refers b k ≡ false → refers b q ≡ false → same_content (renamed f c) b ≡ same_content c b
  same_again c b n m = elim (cases_Bool (refers c k)) [
    | inr i ↦ ap (λ x. same_content x b) (renamed_free c i)
    | inl i ↦ (
        let new : refers (renamed f c) q ≡ true = subst (λ (y : Key). refers (renamed f c) y ≡ true) (f_here k (key_itself k)) (renamed_to ((k, p) ∷ []) c k i) in
        let a : same_content (renamed f c) b ≡ false = elim (cases_Bool (same_content (renamed f c) b)) [ inl x ↦ never (refers b q) (ap (λ y. refers y q) (sym (same_law (renamed f c) b x)) ∙ new) m | inr x ↦ x ] in
        let d : same_content c b ≡ false = elim (cases_Bool (same_content c b)) [ inl x ↦ never (refers b k) (ap (λ y. refers y k) (sym (same_law c b x)) ∙ i) n | inr x ↦ x ] in
        a ∙ sym d)
  ]

  same_update : (e : Entry) → ((b : Content) → held_of e ≡ Some b → (refers b k ≡ false) × (refers b q ≡ false)) → is_update (moved_entry f e) ≡ is_update e
  same_update Incomplete h = refl
  same_update (Known New m d) h = refl
  same_update (Known (Live v b n) None d) h = refl
  same_update (Known (Live v b n) (Some c) d) h = let x = h b refl in ap not (ap (same_content (renamed f c)) (renamed_free b x.0) ∙ same_again c b x.0 x.1)
  same_update (Known (Gone v n) m d) h = refl

  same_vouch : (e : Entry) (r : Key) → is_key r k ≡ false → is_key r q ≡ false → vouches (moved_entry f e) r ≡ vouches e r
  same_vouch e r n m = ap (λ o. content_refers o r && option_map_or (λ c. refers c r) (mine_of (moved_entry f e)) true) (moved_held f e) ∙ ap (λ a. a && option_map_or (λ c. refers c r) (mine_of (moved_entry f e)) true) (refers_other (held_of e) r n m) ∙ ap (λ o. content_refers (held_of e) r && option_map_or (λ c. refers c r) o true) (moved_mine f e) ∙ ap (λ a. content_refers (held_of e) r && a) (some_other (mine_of e)) where
    some_other : (o : Option Content) → option_map_or (λ c. refers c r) (option_map (renamed f) o) true ≡ option_map_or (λ c. refers c r) o true
    some_other None = refl
    some_other (Some c) = renamed_other c r n m

  -- an entry that comes to be an update was one
  update_back : (e : Entry) → ((b : Content) → held_of e ≡ Some b → refers b k ≡ false) → is_update (moved_entry f e) ≡ true → is_update e ≡ true
  update_back Incomplete h x = cc
  update_back (Known New m d) h x = cc
  update_back (Known (Live v b n) None d) h x = cc
  update_back (Known (Live v b n) (Some c) d) h x = elim (cases_Bool (refers c k)) [
    | inl i ↦ (elim (cases_Bool (same_content c b)) [ inl y ↦ never (refers b k) (ap (λ y. refers y k) (sym (same_law c b y)) ∙ i) (h b refl) | inr y ↦ ap not y ])
    | inr i ↦ (λ l. not (same_content (sym (renamed_free c i) l) (sym (renamed_free b (h b refl)) l))) ∙ x
  ]
  update_back (Known (Gone v n) m d) h x = cc

  -- The object of k was made, and t has the answer.
  module _ (t : TableValue) (is : IsSound t) (settled : (j : Key) (g : Entry) → entry_of t j ≡ Some g → is_open g ≡ false) (e : Entry) (c : Content) (entry : entry_of t k ≡ Some e) (mine : mine_of e ≡ Some c)
      (given : IsPositive p) (absent : entry_of t q ≡ None) where
    abbrev s : Sound t
    s = sound_of t is

    positive : is_positive p ≡ true
    positive = positive_is p given

    abbrev e2 : Entry
    e2 = Known (Live 1 (renamed f c) empty_meta) (Some (renamed f c)) None

    abbrev u : TableValue
    u = confirmed t (Create k c) p

    at_u : (j : Key) → is_key j q ≡ true → entry_of u j ≡ Some e2
    at_u j i = at_key_put (fin.remove (moved_entries f t.entries) k) q j e2 i

    off_u : (j : Key) → is_key j q ≡ false → is_key j k ≡ false → entry_of u j ≡ option_map (moved_entry f) (entry_of t j)
    off_u j i n = at_other (fin.remove (moved_entries f t.entries) k) q j e2 i ∙ fin.get-remove rank_total (moved_entries f t.entries) k j ∙ cond-false (is_key j k) None (fin.get (moved_entries f t.entries) j) n ∙ get_moved f t.entries j

    gone_u : (j : Key) → is_key j q ≡ false → is_key j k ≡ true → entry_of u j ≡ None
    gone_u j i n = at_other (fin.remove (moved_entries f t.entries) k) q j e2 i ∙ fin.get-remove rank_total (moved_entries f t.entries) k j ∙ cond-true (is_key j k) None (fin.get (moved_entries f t.entries) j) n

    some_moved : (o : Option Entry) (g : Entry) → option_map (moved_entry f) o ≡ Some g → (h : Entry) × (o ≡ Some h) × (moved_entry f h ≡ g)
    some_moved None g h = cc
    some_moved (Some x) g h = (x, refl, both (moved_entry f x) g (Some (moved_entry f x)) refl h)

    -- what has an entry in t isn't the pick
    not_q : (j : Key) (g : Entry) → entry_of t j ≡ Some g → is_key j q ≡ false
    not_q j g h = elim (cases_Bool (is_key j q)) [ inl i ↦ none_some g (entry_of t q) absent (ap (entry_of t) (sym (one_key j q i)) ∙ h) | inr i ↦ i ]

    pub there : (j : Key) (g : Entry) → is_key j k ≡ false → entry_of t j ≡ Some g → entry_of u j ≡ Some (moved_entry f g)
    there j g n h = off_u j (not_q j g h) n ∙ ap (option_map (moved_entry f)) h

    pub cases_u : (P : Key → Entry → Type 0) → ((j : Key) (g : Entry) → is_key j k ≡ false → is_key j q ≡ false → entry_of t j ≡ Some g → P j (moved_entry f g)) → P q e2 → (j : Key) (g : Entry) → entry_of u j ≡ Some g → P j g
    cases_u P old here j g h = elim (cases_Bool (is_key j q)) [
      | inl i ↦ subst (λ (x : Key). P x g) (sym (one_key j q i)) (subst (λ (x : Entry). P q x) (both e2 g (entry_of u j) (at_u j i) h) here)
      | inr i ↦ (elim (cases_Bool (is_key j k)) [
        | inl n ↦ none_some g (entry_of u j) (gone_u j i n) h
        | inr n ↦ (let x = some_moved (entry_of t j) g (sym (off_u j i n) ∙ h) in subst (λ (y : Entry). P j y) x.2 (old j x.0 n i x.1))
      ])
    ]

    not_refers : (b : Content) (r : Key) → (refers b r ≡ true → ⊥) → refers b r ≡ false
    not_refers b r h = elim (cases_Bool (refers b r)) [ inl x ↦ absurd (h x) | inr x ↦ x ]

    -- no base refers to the placeholder
    free_base : (j : Key) (g : Entry) (b : Content) → entry_of t j ≡ Some g → held_of g ≡ Some b → refers b k ≡ false
    free_base j g b h m = not_refers b k (λ x. never (is_positive k.id) (s.held_refs j k g b h m x) negative)

    some_of : (o : Option Content) (d : Content) → option_map (renamed f) o ≡ Some d → (b : Content) × (o ≡ Some b) × (renamed f b ≡ d)
    some_of None d h = cc
    some_of (Some b) d h = (b, refl, both (renamed f b) d (Some (renamed f b)) refl h)

    old_mine : (g : Entry) (d : Content) → mine_of (moved_entry f g) ≡ Some d → (b : Content) × (mine_of g ≡ Some b) × (renamed f b ≡ d)
    old_mine g d h = some_of (mine_of g) d (sym (moved_mine f g) ∙ h)

    there_u : (r : Key) → IsThere (entry_of t r) → IsThere (entry_of u (f r))
    there_u r x = elim (cases_Bool (is_key r k)) [
      | inl i ↦ subst IsThere (sym (at_u (f r) (key_same (f r) q (f_here r i)))) refl
      | inr i ↦ (
          let away : is_key r q ≡ false = elim (cases_Bool (is_key r q)) [ inl l ↦ absurd (subst IsThere (ap (entry_of t) (one_key r q l) ∙ absent) x) | inr l ↦ l ] in
          subst (λ (y : Key). IsThere (entry_of u y)) (sym (f_other r i)) (subst IsThere (sym (off_u r away i)) (moved_there f (entry_of t r) x)))
    ]

    refs_u : (b : Content) → ((r : Key) → refers b r ≡ true → IsThere (entry_of t r)) → (r : Key) → refers (renamed f b) r ≡ true → IsThere (entry_of u r)
    refs_u b h r g = let x = renamed_from ((k, p) ∷ []) b r g in subst (λ (y : Key). IsThere (entry_of u y)) x.2 (there_u x.0 (h x.0 x.1))

    -- sound again, on every server
    module _ (fit : fits c ≡ true) (server : (r : Key) → refers c r ≡ true → IsPositive r.id) where
      content_kept : renamed f c ≡ c
      content_kept = renamed_free c (not_refers c k (λ h. never (is_positive k.id) (positive_is k.id (server k h)) negative))

      own_sound : IsSoundEntry t.next q e2
      own_sound = let kind = renamed_kind f c ∙ s.kinds k e c entry (inl mine) in record {
        id = given;
        kinds = (kind, kind, tt);
        server = (all_refs (λ r. IsPositive r.id) (renamed f c) (λ r h. server r (subst (λ (y : Content). refers y r ≡ true) content_kept h)), tt);
        versions = ((omega arith, omega arith), tt);
        limits = λ changed. fits_renamed f c ∙ fit;
        conflict = tt;
      }

      pub made_sound : IsSound u
      made_sound = record {
        entries = λ j g h. cases_u (IsSoundEntry t.next)
            (λ j g n a h. moved_sound f t.next j g (settled j g h) (λ b m. renamed_free b (free_base j g b h m)) (update_back g (λ b m. free_base j g b h m)) (is.entries j g h))
            own_sound j g h;
        closed = λ j g h. cases_u (λ j g. LivesIn u g)
            (λ j g n a h r x.
            let d = used_ref (mine_of (moved_entry f g)) r x in
            let b = old_mine g d.0 d.1 in
            refs_u b.0 (λ r y. stands_there t r (s.refs j r g b.0 h b.1 y)) r (subst (λ (y : Content). refers y r ≡ true) (sym b.2) d.2))
            (λ r x. refs_u c (λ r y. stands_there t r (s.refs k r e c entry mine y)) r x) j g h;
        number = is.number;
      }

    -- The change was the first of t.
    module _ (ok : IsClear t) (w : World) (sound : IsSoundWorld w) (holds : Holds w t) (alone : Alone w t) (up : (is_rising e ≡ true) ⊎ (is_update e ≡ true)) (new : is_new (base_in e) ≡ true)
        (empty : stands w q ≡ None) (ks : List Key) (head : ups t ≡ k ∷ ks) where
      -- no base refers to the placeholder, nor to the pick
      base_free : (j : Key) (g : Entry) (b : Content) → entry_of t j ≡ Some g → held_of g ≡ Some b → (refers b k ≡ false) × (refers b q ≡ false)
      base_free j g b h m = (
        free_base j g b h m,
        not_refers b q (λ x.
            let y = sound j q b (ap content_in (holds j g h (held_based g b m)) ∙ m) x in
            none_some y.0 (content_at w q) (ap content_in empty) y.1),
      )

      update_kept : (j : Key) (g : Entry) → entry_of t j ≡ Some g → is_update (moved_entry f g) ≡ is_update g
      update_kept j g h = same_update g (λ b m. base_free j g b h m)

      self_update : is_update e2 ≡ false
      self_update = ap not ((same_content_decides (renamed f c) (renamed f c)).1 refl)

      -- a test that doesn't see the names gives the same keys, but for k
      tested : (test : Key → Entry → Bool) → ((j : Key) (g : Entry) → entry_of t j ≡ Some g → test j (moved_entry f g) ≡ test j g) → test q e2 ≡ false → without k (keys_where t test) ≡ keys_where u test
      tested test same idle = without_where t u k test test
          (λ j g n h x. (moved_entry f g, there j g n h, same j g h ∙ x))
          (λ j g h x. cases_u (λ j g. test j g ≡ true → (is_key j k ≡ false) × ((i : Entry) × (entry_of t j ≡ Some i) × (test j i ≡ true)))
          (λ j g n m h x. (n, (g, h, sym (same j g h) ∙ x)))
          (λ x. never (test q e2) x idle) j g h x)

      rising : (kd : Kind) → without k (keys_where t (rising_of kd)) ≡ keys_where u (rising_of kd)
      rising kd = tested (rising_of kd) (λ j g h. rising_alike kd j.kind (moved_entry f g) g (same_rising f g)) (not_rising kd q.kind e2 refl)

      updates : without k (keys_where t (λ j e. is_update e)) ≡ keys_where u (λ j e. is_update e)
      updates = tested (λ j e. is_update e) (λ j g h. update_kept j g h) self_update

      rising_there : (j : Key) → IsIn j (keys_where u (rising_of kind.Relation)) → (is_key j k ≡ false) × (is_key j q ≡ false)
      rising_there j i =
          let x = in_where u (rising_of kind.Relation) j i in
          cases_u (λ j g. (rising_of kind.Relation) j g ≡ true → (is_key j k ≡ false) × (is_key j q ≡ false)) (λ j g n m h y. (n, m)) (λ y. never (rising_of kind.Relation q e2) y (not_rising kind.Relation q.kind e2 refl)) j x.0 x.1 x.2

      mine_moved : (o : Option Entry) → mine_at (option_map (moved_entry f) o) ≡ option_map (renamed f) (mine_at o)
      mine_moved None = refl
      mine_moved (Some g) = moved_mine f g

      same : (j r : Key) → IsIn j (keys_where u (rising_of kind.Relation)) → IsIn r (keys_where u (rising_of kind.Relation)) → mine_refers t j r ≡ mine_refers u j r
      same j r a b =
          let x = rising_there j a in
          let y = rising_there r b in
          sym (ap (λ o. content_refers (mine_at o) r) (off_u j x.1 x.0) ∙ ap (λ o. content_refers o r) (mine_moved (entry_of t j)) ∙ refers_other (mine_at (entry_of t j)) r y.0 y.1)

      pub ups_rest : ups u ≡ ks
      ups_rest = ups_again t u s ok.no_stuck k ks head rising updates same

      calm : (r : Key) → refers c r ≡ true → at_key t is_rising r ≡ true → ⊥
      calm r h g = first_calm t (λ _. false) _ k ks (ordered t u s ok.no_stuck k ks head rising updates same) e c entry mine r h g refl

      positive_ref : (r : Key) → refers c r ≡ true → is_positive r.id ≡ true
      positive_ref r h = elim (s.refs k r e c entry mine h) [
        | inl i ↦ (let x = some_passed is_incomplete (entry_of t r) i in s.positive r x.0 x.1 (inl x.2))
        | inr l ↦ (elim (cases_Bool (is_new (base_in l.0))) [
          | inl n ↦ absurd (calm r h (at_is t is_rising r l.0 true l.2 (new_rising l.0 l.1 l.3 n)))
          | inr n ↦ s.positive r l.0 l.2 (inr (up_based l.0 l.1 l.3 n))
        ])
      ]

      -- so it stays as it is
      mine_kept : renamed f c ≡ c
      mine_kept = renamed_free c (not_refers c k (λ h. never (is_positive k.id) (positive_ref k h) negative))

      positive_key : (r : Key) → refers c r ≡ true → IsPositive r.id
      positive_key r h = elim (s.refs k r e c entry mine h) [
        | inl i ↦ (let x = some_passed is_incomplete (entry_of t r) i in given_id t is r x.0 x.1 (inl x.2))
        | inr l ↦ (elim (cases_Bool (is_new (base_in l.0))) [
          | inl n ↦ absurd (calm r h (at_is t is_rising r l.0 true l.2 (new_rising l.0 l.1 l.3 n)))
          | inr n ↦ given_id t is r l.0 l.2 (inr (up_based l.0 l.1 l.3 n))
        ])
      ]

      pub sound_again : IsSound u
      sound_again = made_sound (s.fit k e c entry mine up) positive_key

      pub holds_again : Holds (record { entries = fin.insert w.entries q (record { version = 1; content = Some (renamed (called w.names) c) }); names = (k, p) ∷ w.names }) u
      holds_again j g h b = elim (cases_Bool (is_key j q)) [
        | inl i ↦ (
            let one : e2 ≡ g = both e2 g (entry_of u j) (at_u j i) h in
            let kept : renamed (called w.names) c ≡ c = renamed_itself (called w.names) c (λ r x. called_meant w.names r r (means_itself w.names r (positive_ref r x))) in
            at_key_put w.entries q j _ i
            ∙ ap (λ (d : Content). let x : WorldEntry = record { version = 1; content = Some d } in Some x) (kept ∙ sym mine_kept)
            ∙ ap (λ (y : Entry). let x : WorldEntry = record { version = version_of (base_in y); content = held_of y } in Some x) one)
        | inr i ↦ at_other w.entries q j _ i ∙ cases_u (λ j g. is_key j q ≡ false → is_based g ≡ true → stands w j ≡ Some (record { version = version_of (base_in g); content = held_of g }))
            (λ j g n a h i b. holds j g h (sym (same_based f g) ∙ b) ∙ (λ x. let y : WorldEntry = record { version = sym (same_version f g) x; content = held_moved j g h x } in Some y))
            (λ i b. never (is_key q q) (key_itself q) i) j g h i b
      ] where
        held_moved : (j : Key) (g : Entry) → entry_of t j ≡ Some g → held_of g ≡ held_of (moved_entry f g)
        held_moved j g h = stay (held_of g) (λ b m. (base_free j g b h m).0) ∙ sym (moved_held f g) where
          stay : (o : Option Content) → ((b : Content) → o ≡ Some b → refers b k ≡ false) → o ≡ option_map (renamed f) o
          stay None h = refl
          stay (Some b) h = ap (λ (y : Content). Some y) (sym (renamed_free b (h b refl)))

      new_holds_nothing : (g : Entry) → is_new (base_in g) ≡ true → held_of g ≡ None
      new_holds_nothing Incomplete h = refl
      new_holds_nothing (Known New m d) h = refl
      new_holds_nothing (Known (Live v b n) m d) h = cc
      new_holds_nothing (Known (Gone v n) m d) h = refl

      -- an Incomplete key of u is one of t, and neither the placeholder nor the pick
      incomplete_there : (r : Key) → at_key u is_incomplete r ≡ true → (is_key r k ≡ false) × (is_key r q ≡ false) × (at_key t is_incomplete r ≡ true)
      incomplete_there r i =
          let x = some_passed is_incomplete (entry_of u r) i in
          cases_u (λ r g. is_incomplete g ≡ true → (is_key r k ≡ false) × (is_key r q ≡ false) × (at_key t is_incomplete r ≡ true))
          (λ r g n m h y. (n, m, at_is t is_incomplete r g true h (sym (same_incomplete f g) ∙ y)))
          (λ y. cc) r x.0 x.1 x.2

      vouches_again : (v r : Key) (g : Entry) → is_key r k ≡ false → is_key r q ≡ false → entry_of t v ≡ Some g → vouches g r ≡ true → (x : Key) × (y : Entry) × (entry_of u x ≡ Some y) × (vouches y r ≡ true)
      vouches_again v r g n m h a = elim (cases_Bool (is_key v k)) [
        | inr i ↦ (v, moved_entry f g, there v g i h, same_vouch g r n m ∙ a)
        | inl i ↦ (
            let one : g ≡ e = both g e (entry_of t k) (ap (entry_of t) (sym (one_key v k i)) ∙ h) entry in
            let no : vouches g r ≡ false = and_left (content_refers (held_of g) r) (option_map_or (λ c. refers c r) (mine_of g) true) (ap (λ o. content_refers o r) (new_holds_nothing g (ap (λ y. is_new (base_in y)) one ∙ new))) in
            never (vouches g r) a no)
      ]

      pub clear_again : IsClear u
      clear_again = record {
        no_conflict = λ j g h. cases_u (λ j g. is_open g ≡ false) (λ j g n m h. same_open f g ∙ ok.no_conflict j g h) refl j g h;
        vouched = λ j r g d h m sent x i. cases_u (λ j g. (d : Content) → mine_of g ≡ Some d → is_sent g ≡ true → refers d r ≡ true → (v : Key) × (y : Entry) × (entry_of u v ≡ Some y) × (vouches y r ≡ true))
            (λ j g n a h d m sent x.
            let b = old_mine g d m in
            let z = incomplete_there r i in
            let y : refers b.0 r ≡ true = sym (renamed_other b.0 r z.0 z.1) ∙ subst (λ (y : Content). refers y r ≡ true) (sym b.2) x in
            let was : is_sent g ≡ true = (λ l. (sym (same_rising f g) l || sym (update_kept j g h) l)) ∙ sent in
            let v = ok.vouched j r g b.0 h b.1 was y z.2 in
            vouches_again v.0 r v.1 z.0 z.1 v.2 v.3)
            (λ d m sent x. never (is_sent e2) sent self_update) j g h d m sent x;
        no_stuck = stuck_again t u s ok.no_stuck k ks head rising updates same;
      }

      based_moved : (o : Option Entry) → option_map_or is_based (option_map (moved_entry f) o) false ≡ option_map_or is_based o false
      based_moved None = refl
      based_moved (Some g) = same_based f g

      pub alone_again : Alone (record { entries = fin.insert w.entries q (record { version = 1; content = Some (renamed (called w.names) c) }); names = (k, p) ∷ w.names }) u
      alone_again x r d n h g =
          let away : is_key x q ≡ false = elim (cases_Bool (is_key x q)) [ inl i ↦ (let z : at_key u is_based x ≡ true = ap (λ (o : Option Entry). option_map_or is_based o false) (at_u x i) in never (at_key u is_based x) z n) | inr i ↦ i ] in
          let idle : at_key t is_based x ≡ false = elim (cases_Bool (is_key x k)) [
            | inl i ↦ at_is t is_based x e false (ap (entry_of t) (one_key x k i) ∙ entry) (not_based e new)
            | inr i ↦ sym (based_moved (entry_of t x)) ∙ ap (λ (o : Option Entry). option_map_or is_based o false) (sym (off_u x away i)) ∙ n
          ] in
          let y = some_passed is_falling (entry_of u r) g in
          let fall : at_key t is_falling r ≡ true = cases_u (λ r g. is_falling g ≡ true → at_key t is_falling r ≡ true) (λ r g a b h i. at_is t is_falling r g true h (sym (same_falling f g) ∙ i)) (λ i. cc) r y.0 y.1 y.2 in
          alone x r d idle (sym (ap content_in (at_other w.entries q x _ away)) ∙ h) fall

      not_fallen : (j : Key) (g : Entry) → entry_of t j ≡ Some g → is_falling g ≡ true → is_key j k ≡ false
      not_fallen j g h i = elim (cases_Bool (is_key j k)) [
        | inl x ↦ never (is_falling g) i (ap is_falling (both g e (entry_of t k) (ap (entry_of t) (sym (one_key j k x)) ∙ h) entry) ∙ mine_stays e c mine)
        | inr x ↦ x
      ]

      falling : (kd : Kind) → keys_where t (falling_of kd) ≡ keys_where u (falling_of kd)
      falling kd = same_where t u (falling_of kd) (falling_of kd)
          (λ j g h i. (moved_entry f g, there j g (not_fallen j g h (falling_both kd j.kind g i).1) h, falling_alike kd j.kind (moved_entry f g) g (same_falling f g) ∙ i))
          (λ j g h i. cases_u (λ j g. falling_of kd j g ≡ true → (x : Entry) × (entry_of t j ≡ Some x) × (falling_of kd j x ≡ true))
          (λ j g a b h i. (g, h, falling_alike kd j.kind g (moved_entry f g) (sym (same_falling f g)) ∙ i))
          (λ i. never (falling_of kd q e2) i (not_falling kd q.kind e2 refl)) j g h i)

      held_same : (i j : Item) → IsIn i (falling_items t) → IsIn j (falling_items t) → held_refers t i.0 j.0 ≡ held_refers u i.0 j.0
      held_same i j a b =
          let m = map_in (λ k. let x : Item = (k, false) in x) (keys_where t (falling_of kind.Relation)) i a in
          let x = in_where t (falling_of kind.Relation) m.0 m.1 in
          let falls = (falling_both kind.Relation m.0.kind x.0 x.2).1 in
          let n = not_fallen m.0 x.0 x.1 falls in
          let one : i.0 ≡ m.0 = ap (λ (y : Item). y.0) (sym m.2) in
          ap (λ y. held_refers t y j.0) one
          ∙ ap (λ o. content_refers (held_at o) j.0) x.1
          ∙ ap (λ o. content_refers o j.0) (held_kept m.0 x.0 x.1)
          ∙ sym (ap (λ o. content_refers (held_at o) j.0) (there m.0 x.0 n x.1))
          ∙ ap (λ y. held_refers u y j.0) (sym one) where
            held_kept : (j : Key) (g : Entry) → entry_of t j ≡ Some g → held_of g ≡ held_of (moved_entry f g)
            held_kept j g h = stay (held_of g) (λ b m. (base_free j g b h m).0) ∙ sym (moved_held f g) where
              stay : (o : Option Content) → ((b : Content) → o ≡ Some b → refers b k ≡ false) → o ≡ option_map (renamed f) o
              stay None h = refl
              stay (Some b) h = ap (λ (y : Content). Some y) (sym (renamed_free b (h b refl)))

      downs_rest : downs t ≡ downs u
      downs_rest =
          let relations : falls (held_refers t) (keys_where t (falling_of kind.Relation)) ≡ falls (held_refers u) (keys_where u (falling_of kind.Relation)) =
          fall_same t u (length (keys_where t (falling_of kind.Relation)) + length (keys_where t (falling_of kind.Relation))) (falling_items t) held_same
          ∙ ap (λ (xs : List Key). falls (held_refers u) xs) (falling kind.Relation) in
          λ i. relations i ++ (plain_removes (falling kind.Way i) ++ plain_removes (falling kind.Node i))

      up_moved : (j : Key) (o : Option Entry) → up_entry j (option_map (moved_entry f) o) ≡ moved_change f (up_entry j o)
      up_moved j None = refl
      up_moved j (Some Incomplete) = refl
      up_moved j (Some (Known New None d)) = refl
      up_moved j (Some (Known New (Some c) d)) = refl
      up_moved j (Some (Known (Live v b n) None d)) = refl
      up_moved j (Some (Known (Live v b n) (Some c) d)) = refl
      up_moved j (Some (Known (Gone v n) None d)) = refl
      up_moved j (Some (Known (Gone v n) (Some c) d)) = refl

      down_moved : (d : Down) → down_of t d ≡ moved_change f (down_of t d)
      down_moved (Clear j) = refl
      down_moved (Remove j b) = refl

      ups_moved : (js : List Key) → ((j : Key) → IsIn j js → (is_key j k ≡ false) × (is_key j q ≡ false)) → map (up_of u) js ≡ map (moved_change f) (map (up_of t) js)
      ups_moved [] h = refl
      ups_moved (j ∷ js) h = λ i. (ap (up_entry j) (off_u j (h j (inl refl)).1 (h j (inl refl)).0) ∙ up_moved j (entry_of t j)) i ∷ ups_moved js (λ l x. h l (inr x)) i

      downs_moved : (ds : List Down) → map (down_of t) ds ≡ map (moved_change f) (map (down_of t) ds)
      downs_moved [] = refl
      downs_moved (d ∷ ds) = λ i. down_moved d i ∷ downs_moved ds i

      joined : (xs ys : List Change) → map (moved_change f) xs ++ map (moved_change f) ys ≡ map (moved_change f) (xs ++ ys)
      joined [] ys = refl
      joined (x ∷ xs) ys = λ i. moved_change f x ∷ joined xs ys i

      pub plan_rest : (cs : List Change) × (plan t ≡ up_of t k ∷ cs) × (plan u ≡ map (moved_change f) cs)
      plan_rest =
          let line = ordered t u s ok.no_stuck k ks head rising updates same in
          let apart : (j : Key) → IsIn j ks → (is_key j k ≡ false) × (is_key j q ≡ false) = λ j i. (
            elim (cases_Bool (is_key j k)) as (λ _. is_key j k ≡ false) [ inl x ↦ absurd (once t u s ok.no_stuck k ks head rising updates same (subst (λ (y : Key). IsIn y ks) (one_key j k x) i)) | inr x ↦ x ],
            let y = ordered_up t _ _ (k ∷ ks) line j (inr i) in not_q j y.0 y.1,
          ) in
          let d = downs_ordered t s in (
            map (up_of t) ks ++ map (down_of t) (downs t),
            ap (λ (xs : List Key). map (up_of t) xs ++ map (down_of t) (downs t)) head,
            ap (λ (xs : List Key). map (up_of u) xs ++ map (down_of u) (downs u)) ups_rest
                ∙ ap (λ (cs : List Change). cs ++ map (down_of u) (downs u)) (ups_moved ks apart)
                ∙ ap (λ (cs : List Change). map (moved_change f) (map (up_of t) ks) ++ cs) (
                ap (map (down_of u)) (sym downs_rest)
                ∙ sym (steps_same t u (λ j g h i. ap version_at h ∙ sym (same_version_at f g) ∙ sym (ap version_at (there j g (not_fallen j g h i) h))) _ d.0 (downs t) d.1)
                ∙ downs_moved (downs t))
                ∙ joined (map (up_of t) ks) (map (down_of t) (downs t)),
          )
