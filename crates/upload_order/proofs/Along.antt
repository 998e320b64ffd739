-- Between the table, the world at the start and the world now, while objects are created and changed.
use Rattle.std.proofs.Common.{◌≡◌, ◌+◌, ◌&&◌, ℤ, Bool, true, false, cond, Option, Some, None, is_some, refl, sym, ◌∙◌, ap, ◌⊎◌, inl, inr}
use Rattle.std.proofs.lemmas.Bool.{cases_Bool, and_from, or_left, or_right}
use Rattle.std.specs.Option.{option_map, option_map_or}
use Rattle.osm_base.specs.Content.{refers}
use Rattle.osm_base.specs.declared.key.Key.{Key}
use Rattle.osm_base.specs.declared.content.Content.{Content}
use Rattle.osm_base.proofs.Tests.{never, some_passed}
use Rattle.osm_table.specs.declared.entry.Entry.{Entry}
use Rattle.osm_table.specs.declared.entry.Entry.TheVariants.{Incomplete, Known}
use Rattle.osm_table.specs.declared.entry.Base.TheVariants.{New, Live, Gone}
use Rattle.osm_table.specs.Table.{TableValue, entry_of, mine_of, version_of, is_changed, is_new, is_incomplete}
use Rattle.upload_order.specs.Rename.{Names, named, meant, called, with_id, is_positive}
use Rattle.renamed_content.specs.Renamed.{renamed}
use Rattle.upload_order.specs.Kinds.{held_of, at_key, is_rising, is_sent, is_update}
use Rattle.upload_order.specs.World.{World, stands, content_at, reaches}
use Rattle.upload_order.specs.Local.{is_replaced, BacksSent}
use Rattle.upload_order.specs.Pieces.{content_in, has_content}
use Rattle.upload_order.proofs.Basics.{both, none_some}
use Rattle.upload_order.proofs.Static.{IsUp}
use Rattle.upload_order.specs.Bases.{base_in, is_based}
use Rattle.upload_order.proofs.Conditions.{Sound}

-- where the object of a key stands: under a pick, or under the key
abbrev pub IsPlace : TableValue → Key → Entry → Key → Type 0
IsPlace t k e q = ((is_new (base_in e) ≡ true) × (entry_of t q ≡ None)) ⊎ ((is_new (base_in e) ≡ false) × (q ≡ k))

-- the object of a key stands in the world with its new content
pub record IsPut (t : TableValue) (w : World) (k : Key) (e : Entry) (c : Content) : Type 0 where
  pub place : Key
  pub means : meant w.names k ≡ Some place
  pub stood : stands w place ≡ Some (record { version = version_of (base_in e) + 1; content = Some (renamed (called w.names) c) })
  pub which : IsPlace t k e place

-- the key is a pick
pub record IsPick (t : TableValue) (w : World) (done : Key → Bool) (q : Key) : Type 0 where
  pub old : Key
  pub entry : Entry
  pub content : Content
  pub is_up : IsUp t old entry content
  pub was_new : is_new (base_in entry) ≡ true
  pub is_done : done old ≡ true
  pub means : meant w.names old ≡ Some q

pub record Along (t : TableValue) (w0 w : World) (done : Key → Bool) : Type 0 where
  pub ups : (k : Key) → done k ≡ true → (e : Entry) × (c : Content) × IsUp t k e c
  pub closed : (k r : Key) (e : Entry) (c : Content) → done k ≡ true → IsUp t k e c → refers c r ≡ true → at_key t is_rising r ≡ true → done r ≡ true
  pub put : (k : Key) (e : Entry) (c : Content) → done k ≡ true → IsUp t k e c → IsPut t w k e c
  pub waiting : (k : Key) (e : Entry) → entry_of t k ≡ Some e → is_replaced e ≡ true → done k ≡ false → stands w k ≡ Some (record { version = version_of (base_in e); content = held_of e })
  pub others : (q : Key) → at_key t is_replaced q ≡ false → (stands w q ≡ stands w0 q) ⊎ IsPick t w done q

pub based_is : (e : Entry) → is_based e ≡ true → (is_new (base_in e) ≡ false) × (is_incomplete e ≡ false)
based_is Incomplete h = cc
based_is (Known New m c) h = cc
based_is (Known (Live v b n) m c) h = (refl, refl)
based_is (Known (Gone v n) m c) h = (refl, refl)

pub not_based : (e : Entry) → is_new (base_in e) ≡ true → is_based e ≡ false
not_based Incomplete h = refl
not_based (Known New m c) h = refl
not_based (Known (Live v b n) m c) h = cc
not_based (Known (Gone v n) m c) h = cc

pub up_based : (e : Entry) (c : Content) → mine_of e ≡ Some c → is_new (base_in e) ≡ false → is_based e ≡ true
up_based Incomplete c h g = cc
up_based (Known New m d) c h g = cc
up_based (Known (Live v b n) m d) c h g = refl
up_based (Known (Gone v n) m d) c h g = refl

-- an object of one's own with a new base rises
pub new_rising : (e : Entry) (c : Content) → mine_of e ≡ Some c → is_new (base_in e) ≡ true → is_rising e ≡ true
new_rising Incomplete c h g = cc
new_rising (Known New m d) c h g = refl
new_rising (Known (Live v b n) m d) c h g = cc
new_rising (Known (Gone v n) m d) c h g = cc

pub held_based : (e : Entry) (c : Content) → held_of e ≡ Some c → is_based e ≡ true
held_based Incomplete c h = cc
held_based (Known New m d) c h = cc
held_based (Known (Live v b n) m d) c h = refl
held_based (Known (Gone v n) m d) c h = refl

pub mine_known : (e : Entry) (c : Content) → mine_of e ≡ Some c → is_incomplete e ≡ false
mine_known Incomplete c h = cc
mine_known (Known b m d) c h = refl

-- an entry that lives is rising, or its base holds a content
pub data Living (e : Entry) : Type 0 where
  rises : is_rising e ≡ true → Living e
  lives : (c : Content) → is_based e ≡ true → held_of e ≡ Some c → Living e

pub living : (e : Entry) (c : Content) → mine_of e ≡ Some c → Living e
living Incomplete c h = cc
living (Known New m d) c h = rises refl
living (Known (Live v b n) m d) c h = lives b refl refl
living (Known (Gone v n) None d) c h = cc
living (Known (Gone v n) (Some m) d) c h = rises refl

pub at_is : (t : TableValue) (test : Entry → Bool) (k : Key) (e : Entry) (b : Bool) → entry_of t k ≡ Some e → test e ≡ b → at_key t test k ≡ b
at_is t test k e b h g = ap (λ (o : Option Entry). option_map_or test o false) h ∙ g

positive_means : (b : Bool) (r : Key) (o : Option ℤ) → b ≡ true → option_map (with_id r) (cond b (Some r.id) o) ≡ Some r
positive_means true r o e = refl
positive_means false r o e = cc

-- a positive key means itself
pub means_itself : (ns : Names) (r : Key) → is_positive r.id ≡ true → meant ns r ≡ Some r
means_itself ns r e = positive_means (is_positive r.id) r (named ns r) e

reach_by : (w : World) (r q : Key) (d : Content) → meant w.names r ≡ Some q → content_at w q ≡ Some d → reaches w r ≡ true
reach_by w r q d e f = ap (has_content w) e ∙ ap is_some f

pub sent_is : (e : Entry) → (is_rising e ≡ true) ⊎ (is_update e ≡ true) → is_sent e ≡ true
sent_is e (inl h) = or_left (is_rising e) (is_update e) h
sent_is e (inr h) = or_right (is_rising e) (is_update e) h

-- an object with a base that is to be changed
pub up_replaced : (e : Entry) (c : Content) → mine_of e ≡ Some c → (is_rising e ≡ true) ⊎ (is_update e ≡ true) → is_new (base_in e) ≡ false → is_replaced e ≡ true
up_replaced Incomplete c m u n = cc
up_replaced (Known New m d) c h u n = cc
up_replaced (Known (Live v b x) None d) c h u n = cc
up_replaced (Known (Live v b x) (Some m) d) c h (inl u) n = cc
up_replaced (Known (Live v b x) (Some m) d) c h (inr u) n = u
up_replaced (Known (Gone v x) None d) c h u n = cc
up_replaced (Known (Gone v x) (Some m) d) c h u n = refl

pub changed_replaced : (e : Entry) → is_based e ≡ true → is_changed e ≡ true → is_replaced e ≡ true
changed_replaced e b h = and_from (is_based e) (is_changed e) b h

pub unchanged_stays : (e : Entry) → is_changed e ≡ false → is_replaced e ≡ false
unchanged_stays e h = not_both (is_based e) (is_changed e) h where
  not_both : (a b : Bool) → b ≡ false → (a && b) ≡ false
  not_both true b h = h
  not_both false b h = refl

-- an object that lives and isn't changed is at the server
pub unchanged_based : (e : Entry) (c : Content) → mine_of e ≡ Some c → is_changed e ≡ false → is_based e ≡ true
unchanged_based Incomplete c m h = cc
unchanged_based (Known New m d) c g h = cc
unchanged_based (Known (Live v b n) m d) c g h = refl
unchanged_based (Known (Gone v n) m d) c g h = refl

-- an unedited reference has a key that a server gave
ref_given : (t : TableValue) → Sound t → (k r : Key) (e : Entry) (c : Content) → IsUp t k e c → refers c r ≡ true → at_key t is_changed r ≡ false → (f : Entry) × (entry_of t r ≡ Some f) × (is_changed f ≡ false) × (is_positive r.id ≡ true)
ref_given t s k r e c up h n =
    elim (s.refs k r e c up.entry up.mine h) [
      | inl i ↦ (
          let p = some_passed is_incomplete (entry_of t r) i in
          (p.0, p.1, sym (at_is t is_changed r p.0 (is_changed p.0) p.1 refl) ∙ n, s.positive r p.0 p.1 (inl p.2)))
      | inr l ↦ (
          let same : is_changed l.0 ≡ false = sym (at_is t is_changed r l.0 (is_changed l.0) l.2 refl) ∙ n in
          (l.0, l.2, same, s.positive r l.0 l.2 (inr (unchanged_based l.0 l.1 l.3 same))))
    ]

module _ (t : TableValue) (s : Sound t) (w0 w : World) (backs : BacksSent w0 t) where
  -- no object of the table stands under a pick
  pick_apart : {P : Type 0} (done : Key → Bool) → Along t w0 w done → (q : Key) (f : Entry) → IsPick t w done q → entry_of t q ≡ Some f → P
  pick_apart done a q f pick h =
      let b = a.put pick.old pick.entry pick.content pick.is_done pick.is_up in
      let same : b.place ≡ q = both b.place q (meant w.names pick.old) b.means pick.means in
      elim b.which [
        | inl n ↦ none_some f (entry_of t q) (ap (entry_of t) (sym same) ∙ n.1) h
        | inr n ↦ never (is_new (base_in pick.entry)) pick.was_new n.0
      ]

  -- each reference of what is to be sent next has a name and a content
  unedited_reached : (done : Key → Bool) → Along t w0 w done → (k r : Key) (e : Entry) (c : Content) → IsUp t k e c → refers c r ≡ true → at_key t is_changed r ≡ false → reaches w r ≡ true
  unedited_reached done a k r e c up h n =
      let f = ref_given t s k r e c up h n in
      let there = backs k r e c up.entry (sent_is e up.up) up.mine h n in
      let here : stands w r ≡ stands w0 r =
      elim (a.others r (at_is t is_replaced r f.0 false f.1 (unchanged_stays f.0 f.2))) [
        | inl same ↦ same
        | inr pick ↦ pick_apart done a r f.0 pick f.1
      ] in
      reach_by w r r there.0 (means_itself w.names r f.3) (ap content_in here ∙ there.1)

  done_reached : (done : Key → Bool) → Along t w0 w done → (r : Key) → done r ≡ true → reaches w r ≡ true
  done_reached done a r d = let u = a.ups r d in let p = a.put r u.0 u.1 d u.2 in reach_by w r p.place _ p.means (ap content_in p.stood)

  edited_reached : (done : Key → Bool) → Along t w0 w done → (k r : Key) (e : Entry) (c : Content) → IsUp t k e c → (at_key t is_rising r ≡ true → done r ≡ true) → refers c r ≡ true → at_key t is_changed r ≡ true → reaches w r ≡ true
  edited_reached done a k r e c up before h x =
      let f = some_passed is_changed (entry_of t r) x in
      elim (s.refs k r e c up.entry up.mine h) [
        | inl i ↦ (
            let p = some_passed is_incomplete (entry_of t r) i in
            let one : p.0 ≡ f.0 = both p.0 f.0 (entry_of t r) p.1 f.1 in
            never (is_changed f.0) f.2 (ap is_changed (sym one) ∙ incomplete_unchanged p.0 p.2))
        | inr l ↦ (
            let one : l.0 ≡ f.0 = both l.0 f.0 (entry_of t r) l.2 f.1 in
            elim (living l.0 l.1 l.3) [
              | rises rising ↦ done_reached done a r (before (at_is t is_rising r l.0 true l.2 rising))
              | lives b based held ↦ (
                  elim (cases_Bool (done r)) [
                    | inl d ↦ done_reached done a r d
                    | inr n ↦ reach_by w r r b (means_itself w.names r (s.positive r l.0 l.2 (inr based))) (ap content_in (a.waiting r l.0 l.2 (changed_replaced l.0 based (ap is_changed one ∙ f.2)) n) ∙ held)
                  ])
            ])
      ] where
        incomplete_unchanged : (e : Entry) → is_incomplete e ≡ true → is_changed e ≡ false
        incomplete_unchanged Incomplete h = refl
        incomplete_unchanged (Known b m d) h = cc

  pub all_reached : (done : Key → Bool) → Along t w0 w done → (k : Key) (e : Entry) (c : Content) → IsUp t k e c → ((r : Key) → refers c r ≡ true → at_key t is_rising r ≡ true → done r ≡ true) → (r : Key) → refers c r ≡ true → reaches w r ≡ true
  all_reached done a k e c up before r h = elim (cases_Bool (at_key t is_changed r)) [
    | inl x ↦ edited_reached done a k r e c up (before r h) h x
    | inr n ↦ unedited_reached done a k r e c up h n
  ]
