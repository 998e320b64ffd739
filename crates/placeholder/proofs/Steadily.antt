-- Whoever answers the changes of a plan, the table stays sound.
use Rattle.std.proofs.Common.{◌≡◌, ◌+◌, ℤ, true, false, not, List, [], ◌∷◌, ◌++◌, map, Option, Some, None, refl, sym, ◌∙◌, ap, subst, ◌⊎◌, inl, inr, arith}
use Rattle.std.proofs.lemmas.Bool.{cases_Bool}
use Rattle.std.specs.Option.{option_map}
use Rattle.osm_base.specs.Rank.{is_key}
use Rattle.osm_base.specs.Content.{refers, fits, kind_of_content}
use Rattle.osm_base.specs.Meta.{empty_meta}
use Rattle.osm_base.specs.declared.key.Key.{Key}
use Rattle.osm_base.specs.declared.content.Content.{Content}
use Rattle.osm_base.proofs.RisingKeys.{one_key}
use Rattle.osm_base.proofs.Tests.{never}
use Rattle.osm_table.specs.declared.entry.Base.{Base}
use Rattle.osm_table.specs.declared.entry.Base.TheVariants.{Live, Gone}
use Rattle.osm_table.specs.declared.entry.Entry.{Entry}
use Rattle.osm_table.specs.declared.entry.Entry.TheVariants.{Incomplete, Known}
use Rattle.osm_table.specs.Table.{TableValue, entry_of, with_entry, mine_of, held_by, is_new, Each, IsPositive}
use Rattle.osm_table.proofs.Each.{each_with, get_with_same, get_with_other}
use Rattle.dataset.specs.Sound.{IsSound, HasVersion}
use Rattle.upload_order.specs.declared.change.Change.{Change}
use Rattle.upload_order.specs.declared.change.Change.TheVariants.{Create, Modify, Delete}
use Rattle.upload_order.specs.Bases.{is_based}
use Rattle.upload_order.specs.Plan.{plan}
use Rattle.upload_order.specs.Refused.{is_open, upload_refusal}
use Rattle.upload_order.specs.Rename.{Names, called, with_id, is_positive}
use Rattle.renamed_content.specs.Renamed.{renamed}
use Rattle.upload_order.specs.Run.{pick_for, picks_left}
use Rattle.upload_order.proofs.Along.{not_based, mine_known}
use Rattle.upload_order.proofs.Basics.{both, key_same}
use Rattle.upload_order.proofs.Entries.{IsIn}
use Rattle.upload_order.proofs.Renaming.{renamed_from}
use Rattle.upload_order.proofs.Sounds.{sound_of, positive_is}
use Rattle.placeholder.specs.Answers.{IsWithin, AreWithin, IsNewTo, AreNew, AreNewFrom}
use Rattle.placeholder.specs.Confirmed.{moved, moved_entry, moved_change, based_on, named_by, confirmed, confirmed_from, confirmed_all}
use Rattle.placeholder.specs.Resumed.{left_after}
use Rattle.placeholder.proofs.Clear.{is_clear}
use Rattle.placeholder.proofs.Created as created
use Rattle.placeholder.proofs.Moved.{moved_mine, same_new, same_based, same_open, fits_renamed}
use Rattle.placeholder.proofs.Named.{AreNamed, IsGivenTo, known_moved, named_again, left_again, none_named}
use Rattle.placeholder.proofs.Names.{changes_stay}
use Rattle.placeholder.proofs.Resumed.{IsKnownIn}
use Rattle.placeholder.proofs.Settled.{IsServed, settled_sound}
use Rattle.placeholder.proofs.Steady.{IsAfter, IsOn, IsFirst, IsSentAs, AreSteady, plan_steady}

-- no entry is in conflict
abbrev pub AreSettled : TableValue → Type 0
AreSettled t = Each t (λ k e. is_open e ≡ false)

-- An entry comes to stand on another base.
module _ (t : TableValue) (k : Key) (e : Entry) (b : Base) (entry : entry_of t k ≡ Some e) (based : is_based e ≡ true) (known : is_new b ≡ false) where
  abbrev e2 : Entry
  e2 = based_on b (Some e)

  still_based : (e : Entry) → is_based e ≡ true → is_based (based_on b (Some e)) ≡ true
  still_based Incomplete h = h
  still_based (Known old m d) h = ap not known

  still_settled : (e : Entry) → is_open (based_on b (Some e)) ≡ is_open e
  still_settled Incomplete = refl
  still_settled (Known old m d) = refl

  still_mine : (e : Entry) → mine_of (based_on b (Some e)) ≡ mine_of e
  still_mine Incomplete = refl
  still_mine (Known old m d) = refl

  set_settled : AreSettled t → AreSettled (with_entry t k e2)
  set_settled h = each_with (λ j g. is_open g ≡ false) t k e2 h (still_settled e ∙ h k e entry)

  on_set : (j : Key) (o : Option Content) → IsOn t j o → IsOn (with_entry t k e2) j o
  on_set j o x = elim (cases_Bool (is_key j k)) [
    | inl i ↦ (
        let one : x.entry ≡ e = both x.entry e (entry_of t k) (ap (entry_of t) (sym (one_key j k i)) ∙ x.there) entry in record {
          entry = e2;
          there = ap (entry_of (with_entry t k e2)) (one_key j k i) ∙ get_with_same t k e2;
          based = still_based e based;
          settled = still_settled e ∙ ap is_open (sym one) ∙ x.settled;
          mine = still_mine e ∙ ap mine_of (sym one) ∙ x.mine;
        })
    | inr i ↦ record { entry = x.entry; there = get_with_other t k e2 j i ∙ x.there; based = x.based; settled = x.settled; mine = x.mine }
  ]

  first_set : (j : Key) (c : Content) → IsFirst t j c → IsFirst (with_entry t k e2) j c
  first_set j c x =
      let away : is_key j k ≡ false = elim (cases_Bool (is_key j k)) [
        | inl i ↦ never (is_based e) based (ap is_based (both e x.entry (entry_of t k) entry (ap (entry_of t) (sym (one_key j k i)) ∙ x.there)) ∙ not_based x.entry x.new)
        | inr i ↦ i
      ] in
      record { entry = x.entry; there = get_with_other t k e2 j away ∙ x.there; new = x.new; mine = x.mine; fit = x.fit }

  sent_set : (j : Key) (c : Content) → IsSentAs t j c → IsSentAs (with_entry t k e2) j c
  sent_set j c (inl x) = inl (on_set j (Some c) x.0, x.1)
  sent_set j c (inr x) = inr (on_set j None x.0, x.1, x.2)

  steady_set : (made : List Key) (cs : List Change) → AreSteady t made cs → AreSteady (with_entry t k e2) made cs
  steady_set made [] h = tt
  steady_set made (Create j c ∷ cs) h = (first_set j c h.0, h.1, h.2, steady_set (j ∷ made) cs h.3)
  steady_set made (Modify j v c ∷ cs) h = (sent_set j c h.0, h.1, steady_set made cs h.2)
  steady_set made (Delete j v ∷ cs) h = (on_set j None h.0, steady_set made cs h.1)

-- An object was made.
module _ (k : Key) (p : ℤ) (negative : is_positive k.id ≡ false) (t : TableValue) (is : IsSound t) (settled : AreSettled t) (c : Content) (first : IsFirst t k c) (given : IsPositive p) (absent : entry_of t (with_id k p) ≡ None) where
  abbrev f : Key → Key
  f = moved k p

  abbrev u : TableValue
  u = confirmed t (Create k c) p

  still : (j : Key) (g : Entry) → is_key j k ≡ false → entry_of t j ≡ Some g → entry_of u j ≡ Some (moved_entry f g)
  still j g n h = created.there k p negative t is settled first.entry c first.there first.mine given absent j g n h

  made_settled : AreSettled u
  made_settled j g h = created.cases_u k p negative t is settled first.entry c first.there first.mine given absent (λ j g. is_open g ≡ false) (λ j g n m h. same_open f g ∙ settled j g h) refl j g h

  away : (j : Key) (g : Entry) → entry_of t j ≡ Some g → is_based g ≡ true → is_key j k ≡ false
  away j g h b = elim (cases_Bool (is_key j k)) [
    | inl i ↦ never (is_based g) b (ap is_based (both g first.entry (entry_of t k) (ap (entry_of t) (sym (one_key j k i)) ∙ h) first.there) ∙ not_based first.entry first.new)
    | inr i ↦ i
  ]

  on_moved : (j : Key) (o : Option Content) → IsOn t j o → IsOn u j (option_map (renamed f) o)
  on_moved j o x = record {
    entry = moved_entry f x.entry;
    there = still j x.entry (away j x.entry x.there x.based) x.there;
    based = same_based f x.entry ∙ x.based;
    settled = same_open f x.entry ∙ x.settled;
    mine = moved_mine f x.entry ∙ ap (option_map (renamed f)) x.mine;
  }

  module _ (made all : List Key) (more : (r : Key) → IsIn r all → (is_key r k ≡ true) ⊎ IsIn r made) where
    ref_moved : (s r : Key) → f s ≡ r → IsPositive s.id ⊎ IsIn s all → IsPositive r.id ⊎ IsIn r made
    ref_moved s r e h = elim (cases_Bool (is_key s k)) [
      | inl i ↦ inl (subst (λ (x : Key). IsPositive x.id) (sym (created.f_here k p negative s i) ∙ e) given)
      | inr i ↦ subst (λ (x : Key). IsPositive x.id ⊎ IsIn x made) (sym (created.f_other k p negative s i) ∙ e) (elim h [
        | inl x ↦ inl x
        | inr x ↦ (elim (more s x) [ inl y ↦ never (is_key s k) y i | inr y ↦ inr y ])
      ])
    ]

    after_moved : (d : Content) → IsAfter all d → IsAfter made (renamed f d)
    after_moved d h r x = let s = renamed_from ((k, p) ∷ []) d r x in ref_moved s.0 r s.2 (h s.0 s.1)

  steady_moved : (made all : List Key) → ((r : Key) → IsIn r all → (is_key r k ≡ true) ⊎ IsIn r made) → ((r : Key) → IsIn r made → IsIn r all) → IsIn k all → (cs : List Change) → AreSteady t all cs → AreSteady u made (map (moved_change f) cs)
  steady_moved made all more less here [] h = tt
  steady_moved made all more less here (Create j d ∷ cs) h =
      let apart : is_key j k ≡ false = elim (cases_Bool (is_key j k)) [ inl i ↦ absurd (h.1 (subst (λ (x : Key). IsIn x all) (sym (one_key j k i)) here)) | inr i ↦ i ] in (
        record {
          entry = moved_entry f h.0.entry;
          there = still j h.0.entry apart h.0.there;
          new = same_new f h.0.entry ∙ h.0.new;
          mine = moved_mine f h.0.entry ∙ ap (option_map (renamed f)) h.0.mine;
          fit = fits_renamed f d ∙ h.0.fit;
        },
        λ i. h.1 (less j i),
        after_moved made all more d h.2,
        steady_moved (j ∷ made) (j ∷ all)
            (λ r i. elim i [ inl e ↦ inr (inl e) | inr l ↦ (elim (more r l) [ inl y ↦ inl y | inr y ↦ inr (inr y) ]) ])
            (λ r i. elim i [ inl e ↦ inl e | inr l ↦ inr (less r l) ])
            (inr here) cs h.3,
      )
  steady_moved made all more less here (Modify j v d ∷ cs) h = (sent_moved h.0, after_moved made all more d h.1, steady_moved made all more less here cs h.2) where
    sent_moved : IsSentAs t j d → IsSentAs u j (renamed f d)
    sent_moved (inl x) = inl (on_moved j (Some d) x.0, fits_renamed f d ∙ x.1)
    sent_moved (inr x) = inr (on_moved j None x.0, ap (renamed f) x.1, x.2)
  steady_moved made all more less here (Delete j v ∷ cs) h = (on_moved j None h.0, steady_moved made all more less here cs h.1)

-- the table, and the changes that are left, as they were before an answer
pub record IsSteady (t : TableValue) (cs : List Change) : Type 0 where
  pub sound : IsSound t
  pub settled : AreSettled t
  pub steady : AreSteady t [] cs

pub served : (c : Content) → IsAfter [] c → (r : Key) → refers c r ≡ true → IsPositive r.id
served c h r x = elim (h r x) [ inl y ↦ y | inr y ↦ absurd y ]

-- one answer
set_steady : (t : TableValue) (k : Key) (b : Base) (o : Option Content) (cs : List Change) → IsSound t → AreSettled t → IsOn t k o → is_new b ≡ false → HasVersion b
    → ((c : Content) → held_by b ≡ Some c → IsServed k c) → ((c : Content) → o ≡ Some c → fits c ≡ true) → AreSteady t [] cs → IsSteady (with_entry t k (based_on b (entry_of t k))) cs
set_steady t k b o cs is settled x known version held fit steady =
    subst (λ (y : Option Entry). IsSteady (with_entry t k (based_on b y)) cs) (sym x.there) (record {
      sound = settled_sound t k x.entry b is x.there x.settled x.based known version held (λ c h. fit c (sym x.mine ∙ h));
      settled = set_settled t k x.entry b x.there x.based known settled;
      steady = steady_set t k x.entry b x.there x.based known [] cs steady;
    })

pub negative_key : (t : TableValue) → IsSound t → (k : Key) (c : Content) → IsFirst t k c → is_positive k.id ≡ false
negative_key t is k c x = ((sound_of t is).negative k x.entry x.there x.new (mine_known x.entry c x.mine)).0

pub answer_step : (t : TableValue) (c : Change) (cs : List Change) (p : ℤ) → IsSteady t (c ∷ cs) → IsNewTo t c p → IsWithin c p → IsSteady (confirmed t c p) (left_after c p cs)
answer_step t (Create k c) cs p a new within =
    let h = a.steady in
    let x = h.0 in
    let n = negative_key t a.sound k c x in record {
      sound = created.made_sound k p n t a.sound a.settled x.entry c x.there x.mine within new x.fit (served c h.2);
      settled = made_settled k p n t a.sound a.settled c x within new;
      steady = steady_moved k p n t a.sound a.settled c x within new [] (k ∷ []) (λ r i. elim i [ inl e ↦ inl (key_same r k (sym e)) | inr y ↦ absurd y ]) (λ r i. absurd i) (inl refl) cs h.3;
    }
answer_step t (Modify k v c) cs p a new within = by_sent a.steady.0 where
  by_sent : IsSentAs t k c → IsSteady (confirmed t (Modify k v c) p) cs
  by_sent (inl x) =
      set_steady t k (Live (v + 1) c empty_meta) (Some c) cs a.sound a.settled x.0 refl (omega arith, within)
      (λ d h. subst (IsServed k) (both c d (Some c) refl h) ((sound_of t a.sound).kinds k x.0.entry c x.0.there (inl x.0.mine), served c a.steady.1))
      (λ d h. subst (λ (y : Content). fits y ≡ true) (both c d (Some c) refl h) x.1) a.steady.2
  by_sent (inr x) =
      set_steady t k (Live (v + 1) c empty_meta) None cs a.sound a.settled x.0 refl (omega arith, within)
      (λ d h. subst (IsServed k) (both c d (Some c) refl h) (ap kind_of_content x.1 ∙ sym x.2, served c a.steady.1))
      (λ d h. cc) a.steady.2
answer_step t (Delete k v) cs p a new within =
    set_steady t k (Gone (v + 1) empty_meta) None cs a.sound a.settled a.steady.0 refl (omega arith, within) (λ d h. cc) (λ d h. cc) a.steady.1

pub known_in : (t : TableValue) (c : Change) (cs : List Change) → IsSteady t (c ∷ cs) → IsKnownIn t c
known_in t (Create k c) cs a = let x = a.steady.0 in (negative_key t a.sound k c x, (x.entry, x.there))
known_in t (Modify k v c) cs a = by_sent a.steady.0 where
  by_sent : IsSentAs t k c → (e : Entry) × (entry_of t k ≡ Some e)
  by_sent (inl x) = (x.0.entry, x.0.there)
  by_sent (inr x) = (x.0.entry, x.0.there)
known_in t (Delete k v) cs a = (a.steady.0.entry, a.steady.0.there)

module _ (f : Key → Key) where
  pub new_moved : (t : TableValue) (c : Change) (p : ℤ) → IsNewTo t c p → IsNewTo t (moved_change f c) p
  new_moved t (Create k c) p h = h
  new_moved t (Modify k v c) p h = h
  new_moved t (Delete k v) p h = h

  pub within_moved : (c : Change) (p : ℤ) → IsWithin c p → IsWithin (moved_change f c) p
  within_moved (Create k c) p h = h
  within_moved (Modify k v c) p h = h
  within_moved (Delete k v) p h = h

pub given_to : (c : Change) (p : ℤ) → IsWithin c p → IsGivenTo c p
given_to (Create k c) p h = positive_is p h
given_to (Modify k v c) p h = tt
given_to (Delete k v) p h = tt

steadily : (cs ds : List Change) (ns : Names) (t : TableValue) (ps : List ℤ) → IsSteady t (map (moved_change (called ns)) (cs ++ ds)) → AreNamed ns t → AreNewFrom ns t cs ps → AreWithin cs ps → IsSound (confirmed_from ns t cs ps)
steadily [] ds ns t ps a named new within = a.sound
steadily (c ∷ cs) ds ns t ps a named new within =
    let p = pick_for c ps in
    let g = called ns in
    let known = known_moved g t c (known_in t (moved_change g c) (map (moved_change g) (cs ++ ds)) a) in
    let b = answer_step t (moved_change g c) (map (moved_change g) (cs ++ ds)) p a (new_moved g t c p new.0) (within_moved g c p within.0) in
    steadily cs ds (named_by c p ns) (confirmed t (moved_change g c) p) (picks_left c ps)
    (subst (IsSteady (confirmed t (moved_change g c) p)) (left_again ns t c p (cs ++ ds) named known) b)
    (named_again g ns t c p named known (given_to c p within.0))
    new.1 within.1

-- A confirmed table is sound.
pub start_steady : (t : TableValue) → IsSound t → upload_refusal t ≡ None → IsSteady t (map (moved_change (called [])) (plan t))
start_steady t is clear = let ok = is_clear t clear in record { sound = is; settled = ok.no_conflict; steady = subst (AreSteady t []) (sym (changes_stay (plan t))) (plan_steady t is ok) }

pub confirmed_sound : (t : TableValue) (cs ds : List Change) (ps : List ℤ) → IsSound t → upload_refusal t ≡ None → plan t ≡ cs ++ ds → AreNew t cs ps → AreWithin cs ps → IsSound (confirmed_all t cs ps)
confirmed_sound t cs ds ps is clear whole new within =
    let start = subst (λ (xs : List Change). IsSteady t (map (moved_change (called [])) xs)) whole (start_steady t is clear) in
    steadily cs ds [] t ps start (none_named t) new within
