-- The start, the turn from changes to deletions, and the end.
use Rattle.std.proofs.Common.{◌≡◌, Bool, true, false, List, ◌++◌, map, Option, Some, None, refl, sym, ◌∙◌, ap, subst, ◌⊎◌, inl, inr}
use Rattle.std.proofs.lemmas.Bool.{and_parts, cases_Bool}
use Rattle.osm_base.specs.Content.{refers}
use Rattle.osm_base.specs.declared.key.Key.{Key}
use Rattle.osm_base.specs.declared.content.Content.{Content}
use Rattle.osm_table.specs.declared.entry.Entry.{Entry}
use Rattle.osm_table.specs.declared.entry.Entry.TheVariants.{Incomplete, Known}
use Rattle.osm_table.specs.declared.entry.Base.TheVariants.{New, Live, Gone}
use Rattle.osm_table.specs.Table.{TableValue, entry_of, mine_of, version_of, is_changed, is_new, is_incomplete}
use Rattle.upload_order.specs.Rename.{Names, meant, called}
use Rattle.renamed_content.specs.Renamed.{renamed}
use Rattle.upload_order.specs.Kinds.{at_key, is_rising, is_update, is_falling}
use Rattle.osm_base.proofs.Tests.{never, some_passed}
use Rattle.upload_order.specs.World.{World, WorldEntry, stands, content_at, Accepts}
use Rattle.upload_order.specs.Local.{is_replaced, HoldsSent, BacksSent, AloneSent, IsSentTo}
use Rattle.upload_order.specs.Pieces.{content_in}
use Rattle.upload_order.proofs.Basics.{both, none_some}
use Rattle.upload_order.proofs.Renaming.{renamed_from}
use Rattle.upload_order.proofs.Static.{IsUp, IsOrdered, Left, IsDown}
use Rattle.upload_order.specs.Plan.{up_of, down_of, later}
use Rattle.upload_order.specs.declared.down.Down.{Down}
use Rattle.upload_order.proofs.Worlds.{called_meant}
use Rattle.upload_order.proofs.Along.{Along, IsPut, IsPick, at_is, means_itself, based_is, new_rising, up_based}
use Rattle.upload_order.proofs.Ups.{ups_accepted, accepts_more, accepts_weaker}
use Rattle.upload_order.proofs.Downs.{Falling, content_left, downs_accepted}
use Rattle.std.specs.Option.{option_map_or}
use Rattle.upload_order.specs.Bases.{base_in, is_based}
use Rattle.upload_order.proofs.Conditions.{Sound}

pub along_start : (t : TableValue) (w0 : World) → HoldsSent w0 t → Along t w0 w0 (λ _. false)
along_start t w0 h = record {
  ups = λ k d. cc;
  closed = λ k r e c d. cc;
  put = λ k e c d. cc;
  waiting = λ k e g b d. h k e g b;
  others = λ q n. inl refl;
}

-- an entry that is to be created or changed isn't falling
pub up_stays : (e : Entry) → (is_rising e ≡ true) ⊎ (is_update e ≡ true) → is_falling e ≡ false
up_stays Incomplete h = refl
up_stays (Known New m d) h = refl
up_stays (Known (Live v b n) None d) (inl h) = cc
up_stays (Known (Live v b n) None d) (inr h) = cc
up_stays (Known (Live v b n) (Some c) d) h = refl
up_stays (Known (Gone v n) m d) h = refl

pub mine_stays : (e : Entry) (c : Content) → mine_of e ≡ Some c → is_falling e ≡ false
mine_stays Incomplete c h = refl
mine_stays (Known New m d) c h = refl
mine_stays (Known (Live v b n) None d) c h = cc
mine_stays (Known (Live v b n) (Some x) d) c h = refl
mine_stays (Known (Gone v n) m d) c h = refl

pub incomplete_stays : (e : Entry) → is_incomplete e ≡ true → is_falling e ≡ false
incomplete_stays Incomplete h = refl
incomplete_stays (Known b m d) h = cc

pub not_update : (e : Entry) → is_rising e ≡ true → is_update e ≡ false
not_update Incomplete h = refl
not_update (Known New m d) h = refl
not_update (Known (Live v b n) m d) h = cc
not_update (Known (Gone v n) m d) h = refl

pub falling_replaced : (e : Entry) → is_falling e ≡ true → is_replaced e ≡ true
falling_replaced Incomplete h = cc
falling_replaced (Known New m d) h = cc
falling_replaced (Known (Live v b n) None d) h = refl
falling_replaced (Known (Live v b n) (Some c) d) h = cc
falling_replaced (Known (Gone v n) m d) h = cc

-- what is replaced and isn't deleted is sent
replaced_up : (e : Entry) → is_replaced e ≡ true → is_falling e ≡ false → (c : Content) × (mine_of e ≡ Some c) × ((is_rising e ≡ true) ⊎ (is_update e ≡ true))
replaced_up Incomplete h n = cc
replaced_up (Known New m d) h n = cc
replaced_up (Known (Live v b x) None d) h n = cc
replaced_up (Known (Live v b x) (Some c) d) h n = (c, refl, inr h)
replaced_up (Known (Gone v x) None d) h n = cc
replaced_up (Known (Gone v x) (Some c) d) h n = (c, refl, inl refl)

-- what is edited and lives is sent
changed_up : (e : Entry) (c : Content) → is_changed e ≡ true → mine_of e ≡ Some c → (is_rising e ≡ true) ⊎ (is_update e ≡ true)
changed_up Incomplete c h m = cc
changed_up (Known New m d) c h g = inl refl
changed_up (Known (Live v b x) None d) c h g = cc
changed_up (Known (Live v b x) (Some m) d) c h g = inr h
changed_up (Known (Gone v x) None d) c h g = cc
changed_up (Known (Gone v x) (Some m) d) c h g = inl refl

-- what is edited and doesn't live falls, unless it is new
changed_falls : (e : Entry) → is_changed e ≡ true → mine_of e ≡ None → is_new (base_in e) ≡ false → is_falling e ≡ true
changed_falls Incomplete h m n = cc
changed_falls (Known New m d) h g n = cc
changed_falls (Known (Live v b x) None d) h g n = refl
changed_falls (Known (Live v b x) (Some c) d) h g n = cc
changed_falls (Known (Gone v x) None d) h g n = cc
changed_falls (Known (Gone v x) (Some c) d) h g n = cc

changed_known : (e : Entry) → is_changed e ≡ true → is_incomplete e ≡ false
changed_known Incomplete h = cc
changed_known (Known b m d) h = refl

-- the falling keys, none of them emptied
abbrev pub to_go : Bool → Option Bool
to_go true = Some false
to_go false = None

abbrev pub start_left : TableValue → Left
start_left t k = to_go (at_key t is_falling k)

pub to_go_some : (a b : Bool) → to_go a ≡ Some b → (a ≡ true) × (b ≡ false)
to_go_some true true h = cc
to_go_some true false h = (refl, refl)
to_go_some false b h = cc

pub to_go_none : (a : Bool) → to_go a ≡ None → a ≡ false
to_go_none true h = cc
to_go_none false h = refl

module _ (t : TableValue) (s : Sound t) (w0 : World) (backs : BacksSent w0 t) (holds : HoldsSent w0 t) where
  module _ (w : World) (done : Key → Bool) (a : Along t w0 w done) (all : (k : Key) (e : Entry) (c : Content) → IsUp t k e c → done k ≡ true) where
    not_done : (k : Key) (e : Entry) → entry_of t k ≡ Some e → (((c : Content) → mine_of e ≡ Some c → (is_rising e ≡ true) ⊎ (is_update e ≡ true) → ⊥)) → done k ≡ false
    not_done k e h n = elim (cases_Bool (done k)) [ inl d ↦ (let u = a.ups k d in let same : u.0 ≡ e = both u.0 e (entry_of t k) u.2.entry h in absurd (n u.1 (ap mine_of (sym same) ∙ u.2.mine) (subst (λ (x : Entry). (is_rising x ≡ true) ⊎ (is_update x ≡ true)) same u.2.up))) | inr d ↦ d ]

    falling_waits : (k : Key) (e : Entry) → entry_of t k ≡ Some e → is_falling e ≡ true → done k ≡ false
    falling_waits k e h f = not_done k e h (λ c m u. never (is_falling e) f (up_stays e u))

    -- no reference of what was sent means a falling key
    sent_apart : (c : Content) (k r : Key) → ((e : Entry) × (d : Key) × (entry_of t d ≡ Some e) × (mine_of e ≡ Some c)) → at_key t is_falling k ≡ true → refers c r ≡ true → called w.names r ≡ k → ⊥
    sent_apart c k r own fall h same =
        let f = some_passed is_falling (entry_of t k) fall in
        elim (s.refs own.1 r own.0 c own.2 own.3 h) [
          | inl i ↦ (
              let g = some_passed is_incomplete (entry_of t r) i in
              let self : called w.names r ≡ r = called_meant w.names r r (means_itself w.names r (s.positive r g.0 g.1 (inl g.2))) in
              let one : g.0 ≡ f.0 = both g.0 f.0 (entry_of t k) (ap (entry_of t) (sym same ∙ self) ∙ g.1) f.1 in
              never (is_falling f.0) f.2 (ap is_falling (sym one) ∙ incomplete_stays g.0 g.2))
          | inr l ↦ (elim (cases_Bool (is_new (base_in l.0))) [
            | inl n ↦ (
                let u : IsUp t r l.0 l.1 = record { entry = l.2; mine = l.3; up = inl (new_rising l.0 l.1 l.3 n) } in
                let p = a.put r l.0 l.1 (all r l.0 l.1 u) u in
                let at : p.place ≡ k = sym (called_meant w.names r p.place p.means) ∙ same in
                elim p.which [
                  | inl x ↦ none_some f.0 (entry_of t p.place) x.1 (ap (entry_of t) at ∙ f.1)
                  | inr x ↦ never (is_new (base_in l.0)) n x.0
                ])
            | inr n ↦ (
                let self : called w.names r ≡ r = called_meant w.names r r (means_itself w.names r (s.positive r l.0 l.2 (inr (up_based l.0 l.1 l.3 n)))) in
                let one : l.0 ≡ f.0 = both l.0 f.0 (entry_of t k) (ap (entry_of t) (sym same ∙ self) ∙ l.2) f.1 in
                never (is_falling f.0) f.2 (ap is_falling (sym one) ∙ mine_stays l.0 l.1 l.3))
          ])
        ]

    -- a content that was sent refers to no falling key
    sent_free : (c : Content) (k : Key) → ((e : Entry) × (d : Key) × (entry_of t d ≡ Some e) × (mine_of e ≡ Some c)) → at_key t is_falling k ≡ true → refers (renamed (called w.names) c) k ≡ false
    sent_free c k own fall = elim (cases_Bool (refers (renamed (called w.names) c) k)) [
      | inl h ↦ (let f = renamed_from w.names c k h in absurd (sent_apart c k f.0 own fall f.1 f.2))
      | inr h ↦ h
    ]

    put_free : (q k : Key) (e : Entry) (c d : Content) (u : IsUp t k e c) (p : IsPut t w k e c) → p.place ≡ q → content_at w q ≡ Some d → (r : Key) → at_key t is_falling r ≡ true → refers d r ≡ false
    put_free q k e c d u p same h r fall =
        let one : renamed (called w.names) c ≡ d = both _ d (content_at w q) (ap (content_at w) (sym same) ∙ ap content_in p.stood) h in
        ap (λ (x : Content). refers x r) (sym one) ∙ sent_free c r (e, k, u.entry, u.mine) fall

    module _ (alone : AloneSent w0 t) where
      sent_apart_from : (q : Key) (e : Entry) → entry_of t q ≡ Some e → is_replaced e ≡ true → is_falling e ≡ false → (d : Content) → content_at w q ≡ Some d → (k : Key) → at_key t is_falling k ≡ true → refers d k ≡ false
      sent_apart_from q e h x n d g k fall =
          let c = replaced_up e x n in
          let u : IsUp t q e c.0 = record { entry = h; mine = c.1; up = c.2 } in
          let p = a.put q e c.0 (all q e c.0 u) u in
          put_free q q e c.0 d u p (elim p.which [ inl y ↦ never (is_new (base_in e)) y.0 (based_is e (and_parts (is_based e) (is_changed e) x).0).0 | inr y ↦ y.1 ]) g k fall

      free_of : (q : Key) (d : Content) → at_key t is_falling q ≡ false → content_at w q ≡ Some d → (k : Key) → at_key t is_falling k ≡ true → refers d k ≡ false
      free_of q d n g k fall = elim (cases_Bool (at_key t is_replaced q)) [
        | inl b ↦ (let e = some_passed is_replaced (entry_of t q) b in sent_apart_from q e.0 e.1 e.2 (sym (at_is t is_falling q e.0 (is_falling e.0) e.1 refl) ∙ n) d g k fall)
        | inr b ↦ (elim (a.others q b) [
          | inl same ↦ alone q k d b (ap content_in (sym same) ∙ g) fall
          | inr pick ↦ (
              let p = a.put pick.old pick.entry pick.content pick.is_done pick.is_up in
              put_free q pick.old pick.entry pick.content d pick.is_up p (both p.place q (meant w.names pick.old) p.means pick.means) g k fall)
        ])
      ]

      pub turn : Falling t w w (start_left t)
      turn = record {
        frame = λ q n. refl;
        names = refl;
        standing = λ k e b l h f.
            let x = to_go_some (at_key t is_falling k) b l in
            a.waiting k e h (falling_replaced e f) (falling_waits k e h f) ∙ ap (λ (y : Bool). let z : WorldEntry = record { version = later y (version_of (base_in e)); content = content_left y e } in Some z) (sym x.1);
        gone = λ k f l. never (at_key t is_falling k) f (to_go_none (at_key t is_falling k) l);
        apart = λ q k c n f h. free_of q c n h k f;
      }

      -- After the last change the world holds the edits.
      pub edited : (last : Left) → ((k : Key) → last k ≡ None) → (v1 : World) → Falling t w v1 last → IsSentTo t w0 v1
      edited last none v1 f = record {
        living = λ k e c h x m. lives_at k e c h m (changed_up e c x m);
        deleted = λ k e h x m. gone_at k e h x m;
        others = λ q n. other_at q n;
      } where
        same_names : {A : Type 0} (g : Names → A) → g w.names ≡ g v1.names
        same_names g = ap g (sym f.names)

        lives_at : (k : Key) (e : Entry) (c : Content) → entry_of t k ≡ Some e → mine_of e ≡ Some c → (is_rising e ≡ true) ⊎ (is_update e ≡ true) → (q : Key) × (meant v1.names k ≡ Some q) × (content_at v1 q ≡ Some (renamed (called v1.names) c))
        lives_at k e c h m x =
            let u : IsUp t k e c = record { entry = h; mine = m; up = x } in
            let p = a.put k e c (all k e c u) u in
            let quiet : at_key t is_falling p.place ≡ false = elim p.which [
              | inl y ↦ ap (λ (o : Option Entry). option_map_or is_falling o false) y.1
              | inr y ↦ ap (at_key t is_falling) y.1 ∙ at_is t is_falling k e false h (mine_stays e c m)
            ] in
            (p.place, sym (same_names (λ ns. meant ns k)) ∙ p.means, ap content_in (f.frame p.place quiet) ∙ ap content_in p.stood ∙ same_names (λ ns. let o : Option Content = Some (renamed (called ns) c) in o))

        gone_at : (k : Key) (e : Entry) → entry_of t k ≡ Some e → is_changed e ≡ true → mine_of e ≡ None → content_at v1 k ≡ None
        gone_at k e h x m = elim (cases_Bool (is_new (base_in e))) [
          | inl n ↦ (let own = s.negative k e h n (changed_known e x) in none_some own.1.0 (mine_of e) m own.1.1)
          | inr n ↦ f.gone k (at_is t is_falling k e true h (changed_falls e x m n)) (none k)
        ]

        not_falling : (o : Option Entry) → option_map_or is_replaced o false ≡ false → option_map_or is_falling o false ≡ false
        not_falling None h = refl
        not_falling (Some e) h = elim (cases_Bool (is_falling e)) [ inl x ↦ never (is_replaced e) (falling_replaced e x) h | inr x ↦ x ]

        unnamed : (q : Key) → IsPick t w done q → entry_of t q ≡ None
        unnamed q pick =
            let p = a.put pick.old pick.entry pick.content pick.is_done pick.is_up in
            elim p.which [
              | inl y ↦ ap (entry_of t) (sym (both p.place q (meant w.names pick.old) p.means pick.means)) ∙ y.1
              | inr y ↦ never (is_new (base_in pick.entry)) pick.was_new y.0
            ]

        other_at : (q : Key) → at_key t is_replaced q ≡ false → (stands v1 q ≡ stands w0 q) ⊎ ((k : Key) × (at_key t is_rising k ≡ true) × (meant v1.names k ≡ Some q) × (entry_of t q ≡ None))
        other_at q n =
            elim (a.others q n) [
              | inl same ↦ inl (f.frame q (not_falling (entry_of t q) n) ∙ same)
              | inr pick ↦ inr (pick.old, at_is t is_rising pick.old pick.entry true pick.is_up.entry (new_rising pick.entry pick.content pick.is_up.mine pick.was_new), sym (same_names (λ ns. meant ns pick.old)) ∙ pick.means, unnamed q pick)
            ]

  -- The world accepts a list of changes in a good order, and then holds the edits.
  pub all_accepted : AloneSent w0 t → (ks : List Key) (last : Key → Bool) → IsOrdered t (λ _. false) ks last → ((k : Key) (e : Entry) (c : Content) → IsUp t k e c → last k ≡ true)
      → (ds : List Down) (left : Left) → IsDown t (start_left t) ds left → ((k : Key) → left k ≡ None)
      → Accepts t w0 (map (up_of t) ks ++ map (down_of t) ds) (IsSentTo t w0)
  all_accepted alone ks last ordered all ds left down none =
      accepts_more t w0 (map (up_of t) ks) (map (down_of t) ds) (λ w1. Along t w0 w1 last) (IsSentTo t w0)
      (ups_accepted t s w0 backs (λ _. false) last ks ordered w0 (along_start t w0 holds))
      (λ w1 a. accepts_weaker t w1 (map (down_of t) ds) (λ v1. Falling t w1 v1 left) (IsSentTo t w0)
      (downs_accepted t w1 s (start_left t) left ds down w1 (turn w1 last a all alone))
      (λ v1 f. edited w1 last a all alone left none v1 f))
