-- A conflict that is resolved leaves the table sound.
use Rattle.std.proofs.Common.{◌≡◌, ◌||◌, ℕ, Bool, true, false, cond, not, is_some, [], ◌∷◌, Option, Some, None, refl, sym, ap, ◌∙◌, subst, arith}
use mathlib.Core.Logic.{◌⊎◌, inl, inr}
use Rattle.std.specs.List.{find}
use Rattle.std.specs.Option.{option_or}
use Rattle.std.proofs.lemmas.Bool.{true≢false, not-false}
use Rattle.std.proofs.lemmas.Option.{same_Some}
use Rattle.osm_base.specs.Rank.{is_key}
use Rattle.osm_base.specs.Content.{fits, kind_of_content}
use Rattle.osm_base.proofs.RisingKeys.{one_key, key_turned}
use Rattle.osm_base.specs.declared.key.Key.{Key}
use Rattle.osm_base.specs.declared.content.Content.{Content}
use Rattle.osm_table.specs.declared.entry.Base.{Base}
use Rattle.osm_table.specs.declared.entry.Base.TheVariants.{New, Live, Gone}
use Rattle.osm_table.specs.declared.entry.Conflict.{Conflict}
use Rattle.osm_table.specs.declared.entry.Why.{Why}
use Rattle.osm_table.specs.declared.entry.Why.TheVariants.{Changed, Held, Withdrawn}
use Rattle.osm_table.specs.declared.entry.Entry.{Entry}
use Rattle.osm_table.specs.declared.entry.Entry.TheVariants.{Incomplete, Known}
use Rattle.osm_table.specs.Same.{same_mine}
use Rattle.osm_table.specs.Table.{TableValue, entry_of, mine_of, held_by, is_new, is_changed, uses, users, Each, IsThere, IsPositive, IfContent}
use Rattle.osm_table.proofs.SameLaws.{same_mine_decides}
use Rattle.dataset.specs.Sound.{IsSound, IsSoundEntry, IsNumber, WhyFits, IsLive}
use Rattle.dataset.proofs.Changes.{incomplete_entry}
use Rattle.dataset.proofs.Ids.{told_id, base_fits}
use Rattle.merge_cases.specs.declared.choice.Choice.{Choice}
use Rattle.merge_cases.specs.Resolve.{resolved}
use Rattle.tool_api.specs.declared.refusal.Refusal.TheVariants.{InUse, Unfit}
use Rattle.tool_api.specs.Checks.{is_named}
use Rattle.tool_api.specs.Closing.{makes_unfit}
use Rattle.tool_api.specs.Resolve.{choice_test, unused_test, gone_test, references_gone_test, settled_fit_test, settled_table}
use Rattle.tool_api.specs.Staged.{refers_by, refs_by}
use Rattle.tool_api.proofs.Passed.{both_none, passes, none_passes, none_in, fits_or_stays, some_when}
use Rattle.tool_api.proofs.Named.{is_user}
use Rattle.tool_api.proofs.Sounds.{server_positive}
use Rattle.conflict.specs.Settled.{settled_tests, entered}
use Rattle.conflict.proofs.Chosen.{Stems, chosen_stems}
use Rattle.conflict.proofs.Settled.{settled_at, settled_next}

-- The entry by itself.

-- a conflict is with what a server has
not_new : (why : Why) (theirs base : Base) (mine : Option Content) → WhyFits why theirs base mine → is_new theirs ≡ false
not_new why (Live version content meta) base mine h = refl
not_new why (Gone version meta) base mine h = refl
not_new Changed New base mine h = absurd (omega (arith, h.0))
not_new Held New base mine h = absurd h.2
not_new Withdrawn New base mine h = absurd (subst IsLive (sym h.2) h.0)

of_kind : (k : Key) (mine theirs o : Option Content) → IfContent o (Stems k mine theirs) → IfContent o (λ c. kind_of_content c ≡ k.kind)
of_kind k mine theirs None s = tt
of_kind k mine theirs (Some c) s = s.kind

-- what isn't what the server has fits
limits : (theirs : Base) (m : Option Content) → is_new theirs ≡ false → makes_unfit (held_by theirs) m ≡ false → is_changed (Known theirs m None) ≡ true → IfContent m (λ c. fits c ≡ true)
limits theirs None new fine changed = tt
limits theirs (Some c) new fine changed = by (fits_or_stays (held_by theirs) c fine)
  where
    by : (fits c ≡ true) ⊎ (held_by theirs ≡ Some c) → fits c ≡ true
    by (inl fit) = fit
    by (inr same) = absurd (true≢false (sym changed ∙ (λ i. new i || not (same_mine (Some c) (same i))) ∙ ap not ((same_mine_decides (Some c) (Some c)).1 refl)))

-- References.

named_refers : (o : Option Content) (q : Key) → is_named (refs_by o) q ≡ true → refers_by o q ≡ true
named_refers None q h = h
named_refers (Some c) q h = h

refers_named : (o : Option Content) (q : Key) → refers_by o q ≡ true → is_named (refs_by o) q ≡ true
refers_named None q h = h
refers_named (Some c) q h = h

stands : (o : Option Content) (q : Key) → refers_by o q ≡ true → is_some o ≡ true
stands None q h = absurd (true≢false (sym h))
stands (Some c) q h = refl

stem_of : (k : Key) (mine theirs o : Option Content) (q : Key) → IfContent o (Stems k mine theirs) → refers_by o q ≡ true → (refers_by mine q ≡ true) ⊎ (refers_by theirs q ≡ true)
stem_of k mine theirs None q s h = absurd (true≢false (sym h))
stem_of k mine theirs (Some c) q s h = s.refs q h

entered_there : (b : Bool) (o : Option Entry) → IsThere o → IsThere (entered b o)
entered_there b None h = absurd h
entered_there b (Some e) h = h

-- what isn't known enters, and what is deleted was refused
ref_there : (r : Key) (o : Option Entry) → gone_test r o ≡ None → IsThere (entered true o)
ref_there r None e = tt
ref_there r (Some Incomplete) e = tt
ref_there r (Some (Known base None conflict)) e = cc
ref_there r (Some (Known base (Some mine) conflict)) e = refl

module _ (t : TableValue) (sound : IsSound t) (k : Key) (base : Base) (mine : Option Content) (conflict : Conflict) (at : entry_of t k ≡ Some (Known base mine (Some conflict)))
    (m : Option Content) (stems : IfContent m (Stems k mine (held_by conflict.theirs)))
    (unused : unused_test t k m ≡ None) (kept : references_gone_test t k m ≡ None) (fine : settled_fit_test k (Some (Known conflict.theirs m None)) ≡ None) where
  old : IsSoundEntry t.next k (Known base mine (Some conflict))
  old = sound.entries k (Known base mine (Some conflict)) at

  new : is_new conflict.theirs ≡ false
  new = not_new conflict.why conflict.theirs base mine old.conflict

  -- the settled entry is sound by itself
  own_sound : IsSoundEntry t.next k (Known conflict.theirs m None)
  own_sound = record {
    id = base_fits t.next k conflict.theirs m new (told_id t.next k base mine conflict old.id);
    kinds = (old.kinds.2, of_kind k mine (held_by conflict.theirs) m stems, tt);
    server = (old.server.1, tt);
    versions = (old.versions.1, tt);
    limits = limits conflict.theirs m new (some_when (makes_unfit (held_by conflict.theirs) m) (Unfit k) fine);
    conflict = tt;
  }

  -- what enters has a positive id
  absent_positive : (q : Key) → is_named (refs_by m) q ≡ true → entry_of t q ≡ None → IsPositive q.id
  absent_positive q named none = by (stem_of k mine (held_by conflict.theirs) m q stems (named_refers m q named))
    where
      by : (refers_by mine q ≡ true) ⊎ (refers_by (held_by conflict.theirs) q ≡ true) → IsPositive q.id
      by (inl used) = absurd (subst IsThere none (sound.closed k (Known base mine (Some conflict)) at q used))
      by (inr told) = server_positive (held_by conflict.theirs) q old.server.1 told

  at_key : (q : Key) (f : Entry) (a b : Bool) (o : Option Entry) → is_key q k ≡ a → is_named (refs_by m) q ≡ b → entry_of t q ≡ o → entered b (cond a (Some (Known conflict.theirs m None)) o) ≡ Some f → IsSoundEntry t.next q f
  at_key q f true b o is named has i = subst (λ (x : Entry). IsSoundEntry t.next q x) (same_Some (Known conflict.theirs m None) f i) (subst (λ (j : Key). IsSoundEntry t.next j (Known conflict.theirs m None)) (sym (one_key q k is)) own_sound)
  at_key q f false true None is named has i = subst (λ (x : Entry). IsSoundEntry t.next q x) (same_Some Incomplete f i) (incomplete_entry t.next q (absent_positive q named has))
  at_key q f false false None is named has i = cc
  at_key q f false b (Some x) is named has i = subst (λ (y : Entry). IsSoundEntry t.next q y) (same_Some x f i) (sound.entries q x has)

  -- what the settled entry refers to is there
  mine_there : (r : Key) → refers_by m r ≡ true → IsThere (entry_of (settled_table t k (Some (Known conflict.theirs m None))) r)
  mine_there r used = subst IsThere (sym (settled_at t k (Known conflict.theirs m None) r)) (by (is_key r k) (is_named (refs_by m) r) refl (refers_named m r used))
    where
      by : (a b : Bool) → is_key r k ≡ a → b ≡ true → IsThere (entered b (cond a (Some (Known conflict.theirs m None)) (entry_of t r)))
      by true b is named = stands m r used
      by false false is named = absurd (true≢false (sym named))
      by false true is named = ref_there r (entry_of t r)
          (ap (λ (x : Bool). cond x None (gone_test r (entry_of t r))) (sym (key_turned k r ∙ is)) ∙ passes (λ r. cond (is_key k r) None (gone_test r (entry_of t r))) (refs_by m) r kept (refers_named m r used))

  no_user : (q : Key) (x : Entry) (n : Option Content) → unused_test t k n ≡ None → entry_of t q ≡ Some x → uses x k ≡ true → is_key q k ≡ false → is_some n ≡ true
  no_user q x (Some c) free has used other = refl
  no_user q x None free has used other = absurd (true≢false (sym (not-false (is_named (k ∷ []) q)
      (none_passes (λ u. not (is_named (k ∷ []) u)) (users t k) q (none_in (find (λ u. not (is_named (k ∷ []) u)) (users t k)) (λ by. InUse k by) free) (is_user t q k x has used))) ∙ ap (λ b. b || false) other))

  -- what another entry refers to is still there
  old_there : (q : Key) (x : Entry) (r : Key) → entry_of t q ≡ Some x → is_key q k ≡ false → uses x r ≡ true → IsThere (entry_of (settled_table t k (Some (Known conflict.theirs m None))) r)
  old_there q x r has other used = subst IsThere (sym (settled_at t k (Known conflict.theirs m None) r)) (by (is_key r k) (is_named (refs_by m) r) refl)
    where
      by : (a b : Bool) → is_key r k ≡ a → IsThere (entered b (cond a (Some (Known conflict.theirs m None)) (entry_of t r)))
      by true b is = no_user q x m unused has (subst (λ (j : Key). uses x j ≡ true) (one_key r k is) used) other
      by false b is = entered_there b (entry_of t r) (sound.closed q x has r used)

  refs_at : (q : Key) (f : Entry) (r : Key) (a b : Bool) (o : Option Entry) → is_key q k ≡ a → entry_of t q ≡ o → entered b (cond a (Some (Known conflict.theirs m None)) o) ≡ Some f → uses f r ≡ true → IsThere (entry_of (settled_table t k (Some (Known conflict.theirs m None))) r)
  refs_at q f r true b o is has i used = mine_there r (ap (λ (x : Entry). uses x r) (same_Some (Known conflict.theirs m None) f i) ∙ used)
  refs_at q f r false true None is has i used = absurd (true≢false (sym used ∙ sym (ap (λ (x : Entry). uses x r) (same_Some Incomplete f i))))
  refs_at q f r false false None is has i used = cc
  refs_at q f r false b (Some x) is has i used = old_there q x r has is (ap (λ (y : Entry). uses y r) (same_Some x f i) ∙ used)

  settled_sound : IsSound (settled_table t k (Some (Known conflict.theirs m None)))
  settled_sound = record {
    entries = subst (λ (n : ℕ). Each (settled_table t k (Some (Known conflict.theirs m None))) (IsSoundEntry n)) (sym (settled_next t k (Known conflict.theirs m None)))
        (λ q f has. at_key q f (is_key q k) (is_named (refs_by m) q) (entry_of t q) refl refl refl (sym (settled_at t k (Known conflict.theirs m None) q) ∙ has));
    closed = λ q f has r used. refs_at q f r (is_key q k) (is_named (refs_by m) q) (entry_of t q) refl refl (sym (settled_at t k (Known conflict.theirs m None) q) ∙ has) used;
    number = subst IsNumber (sym (settled_next t k (Known conflict.theirs m None))) sound.number;
  }

-- an object in conflict that passes the tests
pub resolved_sound : (t : TableValue) (k : Key) (choice : Choice) (x : Entry) → IsSound t → entry_of t k ≡ Some x → choice_test choice k (Some x) ≡ None → settled_tests t k (resolved choice x) ≡ None
    → IsSound (settled_table t k (Some (resolved choice x)))
resolved_sound t k choice Incomplete sound at can passed = cc
resolved_sound t k choice (Known base mine None) sound at can passed = cc
resolved_sound t k choice (Known base mine (Some conflict)) sound at can passed =
    let m = mine_of (resolved choice (Known base mine (Some conflict))) in
    let p = both_none (unused_test t k m) (option_or (references_gone_test t k m) (settled_fit_test k (Some (Known conflict.theirs m None)))) passed in
    let q = both_none (references_gone_test t k m) (settled_fit_test k (Some (Known conflict.theirs m None))) p.1 in
    let own = sound.entries k (Known base mine (Some conflict)) at in
    settled_sound t sound k base mine conflict at m (chosen_stems choice k base mine conflict own.kinds.1 own.kinds.2) p.0 q.0 q.1

pub after_sound : (t : TableValue) (k : Key) (choice : Choice) (x e : Entry) → IsSound t → entry_of t k ≡ Some x → choice_test choice k (Some x) ≡ None → e ≡ resolved choice x → settled_tests t k e ≡ None
    → IsSound (settled_table t k (Some e))
after_sound t k choice x e sound at can is = subst (λ (y : Entry). settled_tests t k y ≡ None → IsSound (settled_table t k (Some y))) (sym is) (resolved_sound t k choice x sound at can)
