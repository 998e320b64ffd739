-- After one answer the table is again clear to be sent, and its plan is the rest.
use Rattle.std.proofs.Common.{◌≡◌, ℕ, ◌+◌, ◌≤◌, ℤ, Bool, true, false, cond, List, [], ◌∷◌, ◌++◌, map, length, Option, Some, None, refl, sym, ◌∙◌, ap, subst, inl, inr, arith}
use Rattle.osm_base.specs.Meta.{empty_meta}
use Rattle.osm_base.specs.declared.key.Kind.TheVariants as kind
use Rattle.osm_base.specs.declared.key.Key.{Key}
use Rattle.osm_base.specs.declared.content.Content.{Content}
use Rattle.osm_table.specs.declared.entry.Entry.{Entry}
use Rattle.osm_table.specs.declared.entry.Entry.TheVariants.{Known}
use Rattle.osm_table.specs.declared.entry.Base.{Base}
use Rattle.osm_table.specs.declared.entry.Base.TheVariants.{Live, Gone}
use Rattle.osm_table.specs.Table.{TableValue, entry_of, with_entry, held_by, version_of, is_new}
use Rattle.dataset.specs.Sound.{IsSound, HasVersion}
use Rattle.upload_order.specs.declared.change.Change.{Change}
use Rattle.upload_order.specs.declared.change.Change.TheVariants.{Create, Modify, Delete}
use Rattle.upload_order.specs.declared.down.Down.{Down}
use Rattle.upload_order.specs.declared.down.Down.TheVariants.{Clear, Remove}
use Rattle.upload_order.specs.Bases.{base_in}
use Rattle.upload_order.specs.Kinds.{is_falling, at_key, held_refers}
use Rattle.upload_order.specs.Fall.{Item, uses_some, fall}
use Rattle.upload_order.specs.Plan.{ups, up_of, up_entry, plain_removes, downs, down_of, version_at, later, empty_relation, plan}
use Rattle.upload_order.specs.Rename.{called, is_positive}
use Rattle.renamed_content.specs.Renamed.{renamed}
use Rattle.upload_order.specs.World.{World, IsFresh, Holds, Alone, Accepts, IsEdited, refusal, after, put_in}
use Rattle.upload_order.proofs.Accepted.{plan_accepted}
use Rattle.upload_order.proofs.Along.{means_itself, mine_known, up_based}
use Rattle.upload_order.proofs.Basics.{both}
use Rattle.upload_order.proofs.Conditions.{Sound}
use Rattle.upload_order.proofs.Downs.{falling_based, version_case}
use Rattle.upload_order.proofs.Entries.{found_in, map_in}
use Rattle.upload_order.proofs.PlanUps.{ups_ordered, ups_done}
use Rattle.upload_order.proofs.PlanDowns.{downs_ordered}
use Rattle.upload_order.proofs.Runs.{sound_backs}
use Rattle.upload_order.proofs.Sounds.{sound_of}
use Rattle.upload_order.proofs.Static.{IsUp, IsOrdered, next, IsDown, clear, remove}
use Rattle.upload_order.proofs.Turn.{start_left, to_go_some}
use Rattle.upload_order.proofs.Where.{keys_where, falling_of, falling_items, falling_both, in_where}
use Rattle.upload_order.proofs.Worlds.{called_meant, accepted_sound}
use Rattle.upload_order.proofs.Ups.{up_case}
use Rattle.placeholder.specs.Answers.{IsAnswer}
use Rattle.placeholder.specs.Confirmed.{moved, moved_change, based_on, confirmed}
use Rattle.placeholder.specs.Resumed.{IsReady, left_after}
use Rattle.placeholder.proofs.Clear.{IsClear, is_clear, not_refused}
use Rattle.placeholder.proofs.Changed as changed
use Rattle.placeholder.proofs.ClearedPlan as cleared
use Rattle.placeholder.proofs.Created as created
use Rattle.placeholder.proofs.Fallen as fallen
use Rattle.placeholder.proofs.RemovedPlan as removed
use Rattle.placeholder.proofs.Settled.{answered_up, answered_down}

head_is : (c d : Change) (cs ds : List Change) → c ∷ cs ≡ d ∷ ds → (c ≡ d) × (cs ≡ ds)
head_is c d cs ds e = (ap (λ l. first_or l c) e, ap rest_of e) where
  first_or : List Change → Change → Change
  first_or [] x = x
  first_or (y ∷ ys) x = y

  rest_of : List Change → List Change
  rest_of [] = []
  rest_of (y ∷ ys) = ys

first_up : (t : TableValue) (done last : Key → Bool) (k : Key) (ks : List Key) → IsOrdered t done (k ∷ ks) last → (e : Entry) × (c : Content) × IsUp t k e c
first_up t done last k ks (next d l j js e c u free h a) = (e, c, u)

first_clear : (t : TableValue) (last : Key → Option Bool) (k : Key) (ds : List Down) → IsDown t (start_left t) (Clear k ∷ ds) last → (e : Entry) × (entry_of t k ≡ Some e) × (is_falling e ≡ true)
first_clear t last k ds (clear l m j es e x y z a) = (e, x, y)

first_remove : (t : TableValue) (left last : Key → Option Bool) (k : Key) (b : Bool) (ds : List Down) → IsDown t left (Remove k b ∷ ds) last → (e : Entry) × (entry_of t k ≡ Some e) × (is_falling e ≡ true) × (left k ≡ Some b)
first_remove t left last k b ds (remove l m j c es e x y z w a) = (e, x, y, z)

-- what is emptied is a relation
clear_relation : (t : TableValue) (k : Key) (ds : List Down) → downs t ≡ Clear k ∷ ds → k.kind ≡ kind.Relation
clear_relation t k ds head =
    let ways = keys_where t (falling_of kind.Way) in
    let nodes = keys_where t (falling_of kind.Node) in
    let n = length (keys_where t (falling_of kind.Relation)) + length (keys_where t (falling_of kind.Relation)) in
    elim (cleared.front (fall (held_refers t) n (falling_items t)) (plain_removes ways ++ plain_removes nodes) k ds head) [
      | inl a ↦ absurd (cleared.no_clear ways nodes k ds a.1)
      | inr a ↦ (
          let b = cleared.starts t n (falling_items t) k a.0 a.1 in
          let f = found_in (uses_some (held_refers t) (falling_items t)) (falling_items t) b.2.0 b.2.1 in
          let m = map_in (λ j. let x : Item = (j, false) in x) (keys_where t (falling_of kind.Relation)) b.2.0 f.0 in
          let y = in_where t (falling_of kind.Relation) m.0 m.1 in
          sym (ap (λ (x : Key). x.kind) (ap (λ (z : Item). z.0) m.2 ∙ b.2.2)) ∙ (falling_both kind.Relation m.0.kind y.0 y.2).0)
    ]

-- The table u can be sent to the world v but for v's being sound, and its plan is the list.
pub record IsLeft (u : TableValue) (v : World) (cs : List Change) : Type 0 where
  pub sound : IsSound u
  pub clear : IsClear u
  pub holds : Holds v u
  pub alone : Alone v u
  pub rest : plan u ≡ cs

abbrev pub IsResumed : TableValue → World → Change → List Change → ℤ → Type 0
IsResumed t w c cs p = IsLeft (confirmed t c p) (after w c p) (left_after c p cs)

-- the object of a change stands in the table, and one that is to be made has no id of a server
abbrev pub IsKnownIn : TableValue → Change → Type 0
IsKnownIn t (Create k c) = (is_positive k.id ≡ false) × ((e : Entry) × (entry_of t k ≡ Some e))
IsKnownIn t (Modify k v c) = (e : Entry) × (entry_of t k ≡ Some e)
IsKnownIn t (Delete k v) = (e : Entry) × (entry_of t k ≡ Some e)

module _ (t : TableValue) (w : World) (ready : IsReady w t) (p : ℤ) where
  abbrev s : Sound t
  s = sound_of t ready.sound

  ok : IsClear t
  ok = is_clear t ready.clear

  self : (k : Key) → is_positive k.id ≡ true → called w.names k ≡ k
  self k h = called_meant w.names k k (means_itself w.names k h)

  -- a Modify with the entry and the place that it comes to
  modified : (k : Key) (v : ℕ) (c : Content) (cs : List Change) (x : Entry) → based_on (Live (v + 1) c empty_meta) (entry_of t k) ≡ x → called w.names k ≡ k → IsLeft (with_entry t k x) (put_in w k (v + 1) (Some (renamed (called w.names) c))) cs → IsResumed t w (Modify k v c) cs p
  modified k v c cs x e f a = subst (λ (y : Entry). IsLeft (with_entry t k y) (put_in w (called w.names k) (v + 1) (Some (renamed (called w.names) c))) cs) (sym e) (subst (λ (y : Key). IsLeft (with_entry t k x) (put_in w y (v + 1) (Some (renamed (called w.names) c))) cs) (sym f) a)

  deleted : (k : Key) (v : ℕ) (cs : List Change) (x : Entry) → based_on (Gone (v + 1) empty_meta) (entry_of t k) ≡ x → called w.names k ≡ k → IsLeft (with_entry t k x) (put_in w k (v + 1) None) cs → IsResumed t w (Delete k v) cs p
  deleted k v cs x e f a = subst (λ (y : Entry). IsLeft (with_entry t k y) (put_in w (called w.names k) (v + 1) None) cs) (sym e) (subst (λ (y : Key). IsLeft (with_entry t k x) (put_in w y (v + 1) None) cs) (sym f) a)

  up_first : (k : Key) (ks : List Key) → ups t ≡ k ∷ ks → (cs : List Change) → plan t ≡ up_of t k ∷ cs → IsAnswer w t (up_of t k) p → IsResumed t w (up_of t k) cs p
  up_first k ks head cs whole fresh =
      let x = first_up t _ _ k ks (subst (λ (xs : List Key). IsOrdered t (λ _. false) xs (ups_done t s)) head (ups_ordered t s ok.no_stuck)) in
      let change : up_of t k ≡ cond (is_new (base_in x.0)) (Create k x.1) (Modify k (version_of (base_in x.0)) x.1) = ap (up_entry k) x.2.entry ∙ up_case k x.0 x.1 x.2.mine in
      by_base x.0 x.1 x.2 (is_new (base_in x.0)) refl change where
        by_base : (e : Entry) (c : Content) → IsUp t k e c → (b : Bool) → is_new (base_in e) ≡ b → up_of t k ≡ cond b (Create k c) (Modify k (version_of (base_in e)) c) → IsResumed t w (up_of t k) cs p
        by_base e c u true n same =
            let negative = (s.negative k e u.entry n (mine_known e c u.mine)).0 in
            let f = subst (λ (x : Change). IsAnswer w t x p) same fresh in
            let r = created.plan_rest k p negative t ready.sound ok.no_conflict e c u.entry u.mine f.1 f.0.2 ok w ready.world ready.holds ready.alone u.up n f.0.1 ks head in
            let tail : r.0 ≡ cs = (head_is (up_of t k) (up_of t k) r.0 cs (sym r.1 ∙ whole)).1 in
            subst (λ (x : Change). IsResumed t w x cs p) (sym same) (record {
              sound = created.sound_again k p negative t ready.sound ok.no_conflict e c u.entry u.mine f.1 f.0.2 ok w ready.world ready.holds ready.alone u.up n f.0.1 ks head;
              clear = created.clear_again k p negative t ready.sound ok.no_conflict e c u.entry u.mine f.1 f.0.2 ok w ready.world ready.holds ready.alone u.up n f.0.1 ks head;
              holds = created.holds_again k p negative t ready.sound ok.no_conflict e c u.entry u.mine f.1 f.0.2 ok w ready.world ready.holds ready.alone u.up n f.0.1 ks head;
              alone = created.alone_again k p negative t ready.sound ok.no_conflict e c u.entry u.mine f.1 f.0.2 ok w ready.world ready.holds ready.alone u.up n f.0.1 ks head;
              rest = r.2 ∙ ap (map (moved_change (moved k p))) tail;
            })
        by_base e c u false n same =
            let bound : version_of (base_in e) + 1 ≤ 2000000000 = (subst (λ (x : Change). IsAnswer w t x p) same fresh).1 in
            let r = changed.plan_rest t ready.sound ok k e c u n ks head bound in
            let tail = (head_is (up_of t k) (up_of t k) _ cs (sym r ∙ whole)).1 in
            subst (λ (x : Change). IsResumed t w x cs p) (sym same) (modified k (version_of (base_in e)) c cs (Known (Live (version_of (base_in e) + 1) c empty_meta) (Some c) None)
            (ap (based_on (Live (version_of (base_in e) + 1) c empty_meta)) u.entry ∙ answered_up (Live (version_of (base_in e) + 1) c empty_meta) e c u.mine (ok.no_conflict k e u.entry))
            (self k (s.positive k e u.entry (inr (up_based e c u.mine n))))
            (record {
              sound = changed.sound_again t ready.sound ok k e c u n ks head bound;
              clear = changed.clear_again t ready.sound ok k e c u n ks head bound;
              holds = changed.holds_again t ready.sound ok k e c u n ks head bound w ready.holds ready.alone;
              alone = changed.alone_again t ready.sound ok k e c u n ks head bound w ready.holds ready.alone;
              rest = tail;
            }))

  no_ups_plan : (v : TableValue) → ups v ≡ [] → plan v ≡ map (down_of v) (downs v)
  no_ups_plan v h = ap (λ (xs : List Key). map (up_of v) xs ++ map (down_of v) (downs v)) h

  down_first : (d : Down) (ds : List Down) → ups t ≡ [] → downs t ≡ d ∷ ds → IsAnswer w t (down_of t d) p → IsResumed t w (down_of t d) (map (down_of t) ds) p
  down_first (Clear k) ds none head answer =
      let o = downs_ordered t s in
      let x = first_clear t o.0 k ds (subst (λ (xs : List Down). IsDown t (start_left t) xs o.0) head o.1) in
      let e = x.0 in
      let b : Base = Live (version_of (base_in e) + 1) empty_relation empty_meta in
      let kd = clear_relation t k ds head in
      let empty : (d : Content) → held_by b ≡ Some d → (d ≡ empty_relation) × (k.kind ≡ kind.Relation) = λ d h. (both d empty_relation (Some d) refl (sym h), kd) in
      let here : version_at (entry_of t k) ≡ version_of (base_in e) = ap version_at x.1 ∙ version_case e in
      let version : HasVersion b = (omega arith, subst (λ (v : ℕ). v + 1 ≤ 2000000000) here answer.1) in
      subst (λ (v : ℕ). IsResumed t w (Modify k v empty_relation) (map (down_of t) ds) p) (sym here) (modified k (version_of (base_in e)) empty_relation (map (down_of t) ds) (Known b None None)
      (ap (based_on b) x.1 ∙ answered_down b e x.2 (ok.no_conflict k e x.1))
      (self k (s.positive k e x.1 (inr (falling_based e x.2))))
      (record {
        sound = fallen.sound_again t ready.sound ok k e x.1 x.2 none b refl empty version;
        clear = fallen.clear_again t ready.sound ok k e x.1 x.2 none b refl empty version;
        holds = fallen.holds_again t ready.sound ok k e x.1 x.2 none b refl empty version w ready.holds ready.alone;
        alone = fallen.alone_again t ready.sound ok k e x.1 x.2 none b refl empty version w ready.holds ready.alone;
        rest = no_ups_plan (with_entry t k (Known b None None)) (fallen.ups_none t ready.sound ok k e x.1 x.2 none b refl empty version) ∙ cleared.downs_rest t k e x.1 x.2 kd ds head;
      }))
  down_first (Remove k c) ds none head answer =
      let o = downs_ordered t s in
      let x = first_remove t (start_left t) o.0 k c ds (subst (λ (xs : List Down). IsDown t (start_left t) xs o.0) head o.1) in
      let e = x.0 in
      let b : Base = Gone (version_of (base_in e) + 1) empty_meta in
      let empty : (d : Content) → held_by b ≡ Some d → (d ≡ empty_relation) × (k.kind ≡ kind.Relation) = λ d h. cc in
      let first : later c (version_at (entry_of t k)) ≡ version_of (base_in e) = ap (λ f. later f (version_at (entry_of t k))) (to_go_some (at_key t is_falling k) c x.3).1 ∙ ap version_at x.1 ∙ version_case e in
      let version : HasVersion b = (omega arith, subst (λ (v : ℕ). v + 1 ≤ 2000000000) first answer.1) in
      subst (λ (v : ℕ). IsResumed t w (Delete k v) (map (down_of t) ds) p) (sym first) (deleted k (version_of (base_in e)) (map (down_of t) ds) (Known b None None)
      (ap (based_on b) x.1 ∙ answered_down b e x.2 (ok.no_conflict k e x.1))
      (self k (s.positive k e x.1 (inr (falling_based e x.2))))
      (record {
        sound = fallen.sound_again t ready.sound ok k e x.1 x.2 none b refl empty version;
        clear = fallen.clear_again t ready.sound ok k e x.1 x.2 none b refl empty version;
        holds = fallen.holds_again t ready.sound ok k e x.1 x.2 none b refl empty version w ready.holds ready.alone;
        alone = fallen.alone_again t ready.sound ok k e x.1 x.2 none b refl empty version w ready.holds ready.alone;
        rest = no_ups_plan (with_entry t k (Known b None None)) (fallen.ups_none t ready.sound ok k e x.1 x.2 none b refl empty version) ∙ removed.downs_rest t k e x.1 x.2 c ds head;
      }))

  moved_to : (c d : Change) (cs ds : List Change) → c ∷ cs ≡ d ∷ ds → (IsAnswer w t c p → IsResumed t w c cs p) → IsAnswer w t d p → IsResumed t w d ds p
  moved_to c d cs ds e f fresh =
      let h = head_is c d cs ds e in
      subst (λ (x : Change). IsResumed t w x ds p) h.0 (subst (λ (xs : List Change). IsResumed t w c xs p) h.1 (f (subst (λ (x : Change). IsAnswer w t x p) (sym h.0) fresh)))

  by_downs : (ds : List Down) → ups t ≡ [] → downs t ≡ ds → (c : Change) (cs : List Change) → plan t ≡ c ∷ cs → IsAnswer w t c p → IsResumed t w c cs p
  by_downs [] none h c cs e fresh = absurd (nothing (sym (no_ups_plan t none ∙ ap (map (down_of t)) h) ∙ e)) where
    nothing : [] ≡ c ∷ cs → ⊥
    nothing x = cc
  by_downs (d ∷ ds) none h c cs e fresh = moved_to (down_of t d) c (map (down_of t) ds) cs (sym (no_ups_plan t none ∙ ap (map (down_of t)) h) ∙ e) (λ a. down_first d ds none h a) fresh

  by_ups : (ks : List Key) → ups t ≡ ks → (c : Change) (cs : List Change) → plan t ≡ c ∷ cs → IsAnswer w t c p → IsResumed t w c cs p
  by_ups [] h c cs e fresh = by_downs (downs t) h refl c cs e fresh
  by_ups (k ∷ ks) h c cs e fresh =
      let whole : plan t ≡ up_of t k ∷ (map (up_of t) ks ++ map (down_of t) (downs t)) = ap (λ (xs : List Key). map (up_of t) xs ++ map (down_of t) (downs t)) h in
      moved_to (up_of t k) c _ cs (sym whole ∙ e) (λ f. up_first k ks h _ whole f) fresh

  pub resumed : (c : Change) (cs : List Change) → plan t ≡ c ∷ cs → IsAnswer w t c p → IsResumed t w c cs p
  resumed c cs e fresh = by_ups (ups t) refl c cs e fresh

  known_up : (k : Key) (ks : List Key) → ups t ≡ k ∷ ks → IsKnownIn t (up_of t k)
  known_up k ks head =
      let x = first_up t _ _ k ks (subst (λ (xs : List Key). IsOrdered t (λ _. false) xs (ups_done t s)) head (ups_ordered t s ok.no_stuck)) in
      let change : up_of t k ≡ cond (is_new (base_in x.0)) (Create k x.1) (Modify k (version_of (base_in x.0)) x.1) = ap (up_entry k) x.2.entry ∙ up_case k x.0 x.1 x.2.mine in
      subst (IsKnownIn t) (sym change) (by_base x.0 x.1 x.2 (is_new (base_in x.0)) refl) where
        by_base : (e : Entry) (c : Content) → IsUp t k e c → (b : Bool) → is_new (base_in e) ≡ b → IsKnownIn t (cond b (Create k c) (Modify k (version_of (base_in e)) c))
        by_base e c u true n = ((s.negative k e u.entry n (mine_known e c u.mine)).0, (e, u.entry))
        by_base e c u false n = (e, u.entry)

  known_down : (d : Down) (ds : List Down) → downs t ≡ d ∷ ds → IsKnownIn t (down_of t d)
  known_down (Clear k) ds head =
      let o = downs_ordered t s in
      let x = first_clear t o.0 k ds (subst (λ (xs : List Down). IsDown t (start_left t) xs o.0) head o.1) in
      (x.0, x.1)
  known_down (Remove k b) ds head =
      let o = downs_ordered t s in
      let x = first_remove t (start_left t) o.0 k b ds (subst (λ (xs : List Down). IsDown t (start_left t) xs o.0) head o.1) in
      (x.0, x.1)

  known_by_downs : (ds : List Down) → ups t ≡ [] → downs t ≡ ds → (c : Change) (cs : List Change) → plan t ≡ c ∷ cs → IsKnownIn t c
  known_by_downs [] none h c cs e = absurd (nothing (sym (no_ups_plan t none ∙ ap (map (down_of t)) h) ∙ e)) where
    nothing : [] ≡ c ∷ cs → ⊥
    nothing x = cc
  known_by_downs (d ∷ ds) none h c cs e =
      subst (IsKnownIn t) (head_is (down_of t d) c (map (down_of t) ds) cs (sym (no_ups_plan t none ∙ ap (map (down_of t)) h) ∙ e)).0 (known_down d ds h)

  known_by_ups : (ks : List Key) → ups t ≡ ks → (c : Change) (cs : List Change) → plan t ≡ c ∷ cs → IsKnownIn t c
  known_by_ups [] h c cs e = known_by_downs (downs t) h refl c cs e
  known_by_ups (k ∷ ks) h c cs e =
      let whole : plan t ≡ up_of t k ∷ (map (up_of t) ks ++ map (down_of t) (downs t)) = ap (λ (xs : List Key). map (up_of t) xs ++ map (down_of t) (downs t)) h in
      subst (IsKnownIn t) (head_is (up_of t k) c _ cs (sym whole ∙ e)).0 (known_up k ks h)

  pub first_known : (c : Change) (cs : List Change) → plan t ≡ c ∷ cs → IsKnownIn t c
  first_known c cs e = known_by_ups (ups t) refl c cs e

  -- the server takes the change
  pub first_accepted : (c : Change) (cs : List Change) → plan t ≡ c ∷ cs → IsFresh w t c p → refusal w c p ≡ None
  first_accepted c cs e fresh =
      let all : Accepts t w (c ∷ cs) (IsEdited t w) = subst (λ (xs : List Change). Accepts t w xs (IsEdited t w)) e (plan_accepted t w ready.sound ready.clear (sound_backs t w ready.world ready.holds) ready.holds ready.alone) in
      (all p fresh).0

-- the confirmed table can be sent
pub ready_again : (w : World) (t : TableValue) (c : Change) (cs : List Change) (p : ℤ) → IsReady w t → plan t ≡ c ∷ cs → IsAnswer w t c p → IsReady (after w c p) (confirmed t c p)
ready_again w t c cs p ready e answer =
    let x = resumed t w ready p c cs e answer in record {
      sound = x.sound;
      clear = not_refused (confirmed t c p) x.clear;
      world = accepted_sound w c p ready.world (first_accepted t w ready p c cs e answer.0);
      holds = x.holds;
      alone = x.alone;
    }

-- and its plan is the rest
pub rest_again : (w : World) (t : TableValue) (c : Change) (cs : List Change) (p : ℤ) → IsReady w t → plan t ≡ c ∷ cs → IsAnswer w t c p → plan (confirmed t c p) ≡ left_after c p cs
rest_again w t c cs p ready e answer = (resumed t w ready p c cs e answer).rest
