-- A world accepts what is emptied and deleted, in a good order.
use Rattle.std.proofs.Common.{◌≡◌, ℕ, ◌+◌, nat_eq, ℤ, Bool, true, false, cond, List, map, Option, Some, None, is_some, refl, sym, ◌∙◌, ap, subst, inl, inr}
use Rattle.std.proofs.lemmas.Bool.{cases_Bool, cond-false, cond-true}
use Rattle.std.specs.Option.{option_map}
use Rattle.osm_base.specs.Rank.{is_key}
use Rattle.osm_base.specs.Content.{refers}
use Rattle.osm_base.specs.declared.key.Key.{Key}
use Rattle.osm_base.specs.declared.content.Content.{Content}
use Rattle.osm_table.specs.declared.entry.Entry.{Entry}
use Rattle.osm_table.specs.declared.entry.Entry.TheVariants.{Incomplete, Known}
use Rattle.osm_table.specs.declared.entry.Base.TheVariants.{New, Live, Gone}
use Rattle.osm_table.specs.Table.{TableValue, entry_of, version_of}
use Rattle.upload_order.specs.declared.change.Change.{Change}
use Rattle.upload_order.specs.declared.change.Change.TheVariants.{Modify, Delete}
use Rattle.upload_order.specs.Rename.{called}
use Rattle.upload_order.specs.Plan.{empty_relation, version_at, later, down_of}
use Rattle.upload_order.proofs.Fitting.{fits_empty}
use Rattle.upload_order.specs.Kinds.{held_of, at_key, is_falling}
use Rattle.upload_order.specs.World.{World, WorldEntry, stands, content_at, user_of, refusal, on_modify, on_delete, put_in, after, IsFresh, Accepts}
use Rattle.upload_order.specs.declared.world.WorldRefusal.TheVariants.{Used, Missing, OldVersion}
use Rattle.upload_order.specs.Pieces.{content_in}
use Rattle.upload_order.proofs.Basics.{both, none_some, at_key_put, at_other}
use Rattle.upload_order.proofs.Static.{Left, set_left, IsDown, no_more, clear, remove}
use Rattle.upload_order.specs.declared.down.Down.{Down}
use Rattle.upload_order.specs.declared.down.Down.TheVariants.{Clear, Remove}
use Rattle.upload_order.proofs.Worlds.{called_meant, unused}
use Rattle.upload_order.proofs.Along.{means_itself, at_is}
use Rattle.upload_order.proofs.Ups.{nat_self, fit_content, same_version}
use Rattle.upload_order.specs.Bases.{base_in, is_based}
use Rattle.upload_order.proofs.Conditions.{Sound}
use Rattle.osm_base.proofs.RisingKeys.{one_key}
use Rattle.osm_base.proofs.Tests.{never, some_passed}

pub version_case : (e : Entry) → version_at (Some e) ≡ version_of (base_in e)
version_case Incomplete = refl
version_case (Known b m d) = refl

abbrev pub content_left : Bool → Entry → Option Content
content_left true e = Some empty_relation
content_left false e = held_of e

-- Between the world after the last update and the world now, while objects are emptied and deleted.
pub record Falling (t : TableValue) (w1 w : World) (left : Left) : Type 0 where
  pub frame : (q : Key) → at_key t is_falling q ≡ false → stands w q ≡ stands w1 q
  pub names : w.names ≡ w1.names
  pub standing : (k : Key) (e : Entry) (b : Bool) → left k ≡ Some b → entry_of t k ≡ Some e → is_falling e ≡ true → stands w k ≡ Some (record { version = later b (version_of (base_in e)); content = content_left b e })
  pub gone : (k : Key) → at_key t is_falling k ≡ true → left k ≡ None → content_at w k ≡ None
  pub apart : (q k : Key) (c : Content) → at_key t is_falling q ≡ false → at_key t is_falling k ≡ true → content_at w q ≡ Some c → refers c k ≡ false

pub falling_based : (e : Entry) → is_falling e ≡ true → is_based e ≡ true
falling_based Incomplete h = cc
falling_based (Known New m d) h = cc
falling_based (Known (Live v b n) m d) h = refl
falling_based (Known (Gone v n) m d) h = cc

pub falling_held : (e : Entry) → is_falling e ≡ true → (c : Content) × (held_of e ≡ Some c)
falling_held Incomplete h = cc
falling_held (Known New m d) h = cc
falling_held (Known (Live v b n) m d) h = (b, refl)
falling_held (Known (Gone v n) m d) h = cc

module _ (t : TableValue) (w1 : World) where
  module _ (w : World) (left : Left) (f : Falling t w1 w left) (k : Key) (e : Entry) (entry : entry_of t k ≡ Some e) (falls : is_falling e ≡ true) (to : Option Bool) (x : WorldEntry)
      (stood : (b : Bool) → to ≡ Some b → x ≡ record { version = later b (version_of (base_in e)); content = content_left b e }) (went : to ≡ None → x.content ≡ None) where
    abbrev then_world : World
    then_world = put_in w k x.version x.content

    at_put : (q : Key) → is_key q k ≡ true → stands then_world q ≡ Some x
    at_put q i = at_key_put w.entries k q x i

    off_put : (q : Key) → is_key q k ≡ false → stands then_world q ≡ stands w q
    off_put q i = at_other w.entries k q x i

    not_k : (q : Key) → at_key t is_falling q ≡ false → is_key q k ≡ false
    not_k q n = elim (cases_Bool (is_key q k)) [ inl i ↦ never (at_key t is_falling q) (at_is t is_falling q e true (ap (entry_of t) (one_key q k i) ∙ entry) falls) n | inr i ↦ i ]

    falling_step : Falling t w1 then_world (set_left k to left)
    falling_step = record {
      frame = λ q n. off_put q (not_k q n) ∙ f.frame q n;
      names = f.names;
      standing = λ q g b l h i. elim (cases_Bool (is_key q k)) [
        | inl j ↦ (
            let same : e ≡ g = both e g (entry_of t q) (ap (entry_of t) (one_key q k j) ∙ entry) h in
            at_put q j ∙ ap (λ (y : WorldEntry). Some y) (stood b (sym (cond-true (is_key q k) to (left q) j) ∙ l)) ∙ ap (λ (y : Entry). let z : WorldEntry = record { version = later b (version_of (base_in y)); content = content_left b y } in Some z) same)
        | inr j ↦ off_put q j ∙ f.standing q g b (sym (cond-false (is_key q k) to (left q) j) ∙ l) h i
      ];
      gone = λ q h l. elim (cases_Bool (is_key q k)) [
        | inl j ↦ ap content_in (at_put q j) ∙ went (sym (cond-true (is_key q k) to (left q) j) ∙ l)
        | inr j ↦ ap content_in (off_put q j) ∙ f.gone q h (sym (cond-false (is_key q k) to (left q) j) ∙ l)
      ];
      apart = λ q r c n h i. f.apart q r c n h (sym (ap content_in (off_put q (not_k q n))) ∙ i);
    }

  module _ (s : Sound t) (w : World) (left : Left) (f : Falling t w1 w left) (k : Key) (e : Entry) (entry : entry_of t k ≡ Some e) (falls : is_falling e ≡ true) where
    self : called w.names k ≡ k
    self = called_meant w.names k k (means_itself w.names k (s.positive k e entry (inr (falling_based e falls))))

    abbrev One : Change → Left → Type 0
    One change to = (p : ℤ) → IsFresh w t change p → (refusal w change p ≡ None) × Falling t w1 (after w change p) to

    version_here : version_at (entry_of t k) ≡ version_of (base_in e)
    version_here = ap version_at entry ∙ version_case e

    cleared : left k ≡ Some false → One (Modify k (version_of (base_in e)) empty_relation) (set_left k (Some true) left)
    cleared l p fresh =
        let v = version_of (base_in e) in
        let ok : refusal w (Modify k v empty_relation) p ≡ None =
        ap (on_modify w v empty_relation) (ap (stands w) self ∙ f.standing k e false l entry falls) ∙ same_version w v empty_relation (held_of e) (fit_content w empty_relation fits_empty refl) in (
          ok,
          subst (λ (x : Key). Falling t w1 (put_in w x (v + 1) (Some empty_relation)) (set_left k (Some true) left)) (sym self)
              (falling_step w left f k e entry falls (Some true) (record { version = v + 1; content = Some empty_relation }) (λ b h. set_true b h e) (λ h. cc)),
        ) where
          set_true : (b : Bool) → Some true ≡ Some b → (e : Entry) → record { version = version_of (base_in e) + 1; content = Some empty_relation } ≡ (let y : WorldEntry = record { version = later b (version_of (base_in e)); content = content_left b e } in y)
          set_true true h e = refl
          set_true false h e = cc

    some_left : (b : Bool) → is_some (content_left b e) ≡ true
    some_left true = refl
    some_left false = ap is_some (falling_held e falls).1

    unused_now : (b : Bool) → left k ≡ Some b → ((u : Key) (g : Entry) (c : Content) → left u ≡ Some false → entry_of t u ≡ Some g → held_of g ≡ Some c → refers c k ≡ false) → (q : Key) (c : Content) → content_at w q ≡ Some c → refers c k ≡ false
    unused_now b l free q c h =
        elim (cases_Bool (at_key t is_falling q)) [
          | inl i ↦ by_left (left q) refl i
          | inr i ↦ f.apart q k c i (at_is t is_falling k e true entry falls) h
        ] where
          by_left : (o : Option Bool) → left q ≡ o → at_key t is_falling q ≡ true → refers c k ≡ false
          by_left None l i = none_some c (content_at w q) (f.gone q i l) h
          by_left (Some true) l i =
              let g = some_passed is_falling (entry_of t q) i in
              let same : c ≡ empty_relation = both c empty_relation (content_at w q) h (ap content_in (f.standing q g.0 true l g.1 g.2)) in
              ap (λ (d : Content). refers d k) same
          by_left (Some false) l i =
              let g = some_passed is_falling (entry_of t q) i in
              free q g.0 c l g.1 (sym (ap content_in (f.standing q g.0 false l g.1 g.2)) ∙ h)

    removed : (b : Bool) → left k ≡ Some b → ((u : Key) (g : Entry) (c : Content) → left u ≡ Some false → entry_of t u ≡ Some g → held_of g ≡ Some c → refers c k ≡ false) → One (Delete k (later b (version_of (base_in e)))) (set_left k None left)
    removed b l free p fresh =
        let v = later b (version_of (base_in e)) in
        let none : user_of w k ≡ None = unused w k (unused_now b l free) in
        let ok : refusal w (Delete k v) p ≡ None =
        ap (λ (x : Key). on_delete w x v (stands w x)) self ∙ ap (on_delete w k v) (f.standing k e b l entry falls)
        ∙ ap (λ c. cond c (cond (nat_eq v v) (option_map Used (user_of w k)) (Some (OldVersion v))) (Some Missing)) (some_left b)
        ∙ ap (λ c. cond c (option_map Used (user_of w k)) (Some (OldVersion v))) (nat_self v)
        ∙ ap (option_map Used) none in (
          ok,
          subst (λ (x : Key). Falling t w1 (put_in w x (v + 1) None) (set_left k None left)) (sym self)
              (falling_step w left f k e entry falls None (record { version = v + 1; content = None }) (λ c h. cc) (λ h. refl)),
        )

    cleared_of : left k ≡ Some false → One (down_of t (Clear k)) (set_left k (Some true) left)
    cleared_of l = subst (λ (v : ℕ). One (Modify k v empty_relation) (set_left k (Some true) left)) (sym version_here) (cleared l)

    removed_of : (b : Bool) → left k ≡ Some b → ((u : Key) (g : Entry) (c : Content) → left u ≡ Some false → entry_of t u ≡ Some g → held_of g ≡ Some c → refers c k ≡ false) → One (down_of t (Remove k b)) (set_left k None left)
    removed_of b l free = subst (λ (v : ℕ). One (Delete k (later b v)) (set_left k None left)) (sym version_here) (removed b l free)

  -- The world accepts the steps down in a good order.
  pub downs_accepted : Sound t → (left last : Left) (ds : List Down) → IsDown t left ds last → (w : World) → Falling t w1 w left → Accepts t w (map (down_of t) ds) (λ v. Falling t w1 v last)
  downs_accepted s left last ds (no_more l) w f = f
  downs_accepted s left last ds (clear l m k js e entry falls is rest) w f = λ p fresh.
      let x = cleared_of s w l f k e entry falls is p fresh in
      (x.0, downs_accepted s (set_left k (Some true) l) m js rest (after w (down_of t (Clear k)) p) x.1)
  downs_accepted s left last ds (remove l m k b js e entry falls is free rest) w f = λ p fresh.
      let x = removed_of s w l f k e entry falls b is free p fresh in
      (x.0, downs_accepted s (set_left k None l) m js rest (after w (down_of t (Remove k b)) p) x.1)
