-- What was edited here stays through a merge.
use Rattle.std.proofs.Common.{◌≡◌, ◌==◌, ◌||◌, ◌&&◌, not, ℕ, nat_lt, Bool, true, false, Option, Some, None, is_some, cond, refl, sym, ◌∙◌, ap, subst, inl, inr, ◌⊎◌}
use Rattle.std.specs.Option.{option_map}
use Rattle.std.specs.FinMap as fin
use Rattle.std.proofs.lemmas.Bool.{true≢false}
use Rattle.osm_base.specs.Rank.{is_key}
use Rattle.osm_base.specs.declared.key.Key.{Key}
use Rattle.osm_base.specs.declared.content.Content.{Content}
use Rattle.osm_table.specs.declared.entry.Base.{Base}
use Rattle.osm_table.specs.declared.entry.Base.TheVariants as base
use Rattle.osm_table.specs.declared.entry.Conflict.{Conflict}
use Rattle.osm_table.specs.declared.entry.Entry.{Entry}
use Rattle.osm_table.specs.declared.entry.Entry.TheVariants.{Incomplete, Known}
use Rattle.osm_table.specs.declared.told.Told.{Told}
use Rattle.osm_table.specs.declared.told.Told.TheVariants as told
use Rattle.osm_table.specs.Table.{TableValue, entry_of, held_by, known_base, version_of, is_new, is_changed, IsThere}
use Rattle.osm_table.specs.Told.{ToldEntries}
use Rattle.osm_table.specs.Same.{same_mine}
use Rattle.osm_table.proofs.SameLaws.{same_mine_decides}
use Rattle.dataset.specs.Exact.{mine_at}
use Rattle.dataset.specs.Sound.{IsSound, ConflictFits, IsLive}
use Rattle.closure.specs.Closure.{has}
use Rattle.merge_cases.specs.declared.verdict.Verdict.{Verdict}
use Rattle.merge_cases.specs.declared.verdict.Verdict.TheVariants.{Stay, Mention, Take, Clash, Keep, Candidate, Settle, Join, Dispute}
use Rattle.merge_cases.specs.Case.{known_case, newer_case, changed_case, unchanged_case, withdrawn_case, same_version_case, all_join, is_withdrawn}
use Rattle.tool_api.specs.Closing.{in_conflict}
use Rattle.tool_api.specs.Staged.{staged, stage_of, verdict_at, theirs_at, is_candidate, all_joined, lost_of, back, bared}
use Rattle.tool_api.specs.Merged.{both_keys, wanted, held, named, merged}
use Rattle.job_laws.proofs.MergeRows.{theirs_by, verdict_by, there_found, joined_some}
use Rattle.job_laws.proofs.MergeStand.{there_if_mine, settled, bared_kept, wanted_lost}
use Rattle.job_laws.proofs.MergeOutcome.{outcome, merged_at}
use Rattle.job_laws.proofs.MergePlaces.{kept}
use Rattle.job_laws.proofs.MergeConflicts.{back_conflict}

-- What a case makes of an object's content, where the object is changed and didn't come back: it stays, is joined, or is
-- what is told.
abbrev Spares : Verdict → Option Content → Option Content → Option Content → Type 0
Spares Stay base mine theirs = Unit {0}
Spares Mention base mine theirs = ⊥
Spares Take base mine theirs = ⊥
Spares Clash base mine theirs = Unit {0}
Spares Keep base mine theirs = ⊥
Spares Candidate base mine theirs = ⊥
Spares Settle base mine theirs = mine ≡ theirs
Spares Join base mine theirs = all_join base mine theirs ≡ true
Spares Dispute base mine theirs = Unit {0}

one_version_spares : (b m known theirs : Option Content) → Spares (same_version_case known theirs) b m theirs
one_version_spares b m None None = tt
one_version_spares b m None (Some t) = tt
one_version_spares b m (Some k) None = tt
one_version_spares b m (Some k) (Some t) = tt

changed_spares : (b m theirs : Option Content) → Spares (changed_case b m theirs) b m theirs
changed_spares b m theirs = by (same_mine m theirs) (all_join b m theirs) refl refl
  where
    by : (s j : Bool) → same_mine m theirs ≡ s → all_join b m theirs ≡ j → Spares (cond s Settle (cond j Join Dispute)) b m theirs
    by true j e f = (same_mine_decides m theirs).0 e
    by false true e f = f
    by false false e f = tt

newer_spares : (b : Base) (m : Option Content) (f : Option Conflict) (theirs : Option Content) → is_withdrawn f ≡ false → is_changed (Known b m f) ≡ true → Spares (newer_case b m f theirs) (held_by b) m theirs
newer_spares b m f theirs w c = by (is_withdrawn f) (is_changed (Known b m f)) w c
  where
    by : (r s : Bool) → r ≡ false → s ≡ true → Spares (cond r (withdrawn_case theirs) (cond s (changed_case (held_by b) m theirs) (unchanged_case m theirs))) (held_by b) m theirs
    by true s e g = absurd (true≢false e)
    by false true e g = changed_spares (held_by b) m theirs
    by false false e g = absurd (true≢false (sym g))

known_spares : (b : Base) (m : Option Content) (f : Option Conflict) (version : ℕ) (theirs : Option Content) → is_withdrawn f ≡ false → is_changed (Known b m f) ≡ true → Spares (known_case b m f version theirs) (held_by b) m theirs
known_spares b m f version theirs w c = by (nat_lt version (version_of (known_base b f))) (version == version_of (known_base b f))
  where
    by : (older same : Bool) → Spares (cond older Stay (cond same (same_version_case (held_by (known_base b f)) theirs) (newer_case b m f theirs))) (held_by b) m theirs
    by true same = tt
    by false true = one_version_spares (held_by b) m (held_by (known_base b f)) theirs
    by false false = newer_spares b m f theirs w c

spares : (b : Base) (m : Option Content) (f : Option Conflict) (s : Option Told) → is_withdrawn f ≡ false → is_changed (Known b m f) ≡ true → Spares (verdict_by (Some (Known b m f)) s) (held_by b) m (held_by (theirs_by s))
spares b m f None w c = tt
spares b m f (Some told.Mentioned) w c = tt
spares b m f (Some (told.Live version content meta)) w c = known_spares b m f version (Some content) w c
spares b m f (Some (told.Gone version meta)) w c = known_spares b m f version None w c

-- an object of a sound table that came back isn't changed
not_withdrawn : (b : Base) (m : Option Content) (f : Option Conflict) → ConflictFits b m f → is_changed (Known b m f) ≡ true → is_withdrawn f ≡ false
not_withdrawn b m f h c = by (is_withdrawn f) refl
  where
    as_base : (b : Base) → IsLive b → (is_new b || false) ≡ true → ⊥
    as_base base.New l e = l
    as_base (base.Live v d meta) l e = true≢false (sym e)
    as_base (base.Gone v meta) l e = true≢false (sym e)

    by : (w : Bool) → is_withdrawn f ≡ w → w ≡ false
    by false e = refl
    by true e =
        let k = kept b m f h (inl e) in
        absurd (as_base b k.0 (sym (ap (λ (s : Bool). is_new b || not s) ((same_mine_decides m (held_by b)).1 k.1)) ∙ c))

-- the content that stays, or that comes of both sides'
abbrev IsSpared : Verdict → Base → Option Content → Base → Option Content → Type 0
IsSpared v b m theirs after = (after ≡ m) ⊎ ((v ≡ Join) × (after ≡ all_joined (held_by b) m (held_by theirs)))

staged_spared : (v : Verdict) (b : Base) (m : Option Content) (f : Option Conflict) (theirs : Base) → Spares v (held_by b) m (held_by theirs) → IsSpared v b m theirs (mine_at (staged v (Some (Known b m f)) theirs))
staged_spared Stay b m f theirs s = inl refl
staged_spared Mention b m f theirs s = absurd s
staged_spared Take b m f theirs s = absurd s
staged_spared Clash b m f theirs s = inl refl
staged_spared Keep b m f theirs s = absurd s
staged_spared Candidate b m f theirs s = absurd s
staged_spared Settle b m f theirs s = inl (sym s)
staged_spared Join b m f theirs s = inr (refl, refl)
staged_spared Dispute b m f theirs s = inl refl

firm : (v : Verdict) (b m theirs : Option Content) → Spares v b m theirs → is_candidate v ≡ false
firm Stay b m theirs s = refl
firm Mention b m theirs s = refl
firm Take b m theirs s = refl
firm Clash b m theirs s = refl
firm Keep b m theirs s = refl
firm Candidate b m theirs s = absurd s
firm Settle b m theirs s = refl
firm Join b m theirs s = refl
firm Dispute b m theirs s = refl

-- where mine lives, so does what is spared of it,
spared_lives : (v : Verdict) (b : Base) (m : Option Content) (theirs : Base) (after : Option Content) → is_some m ≡ true → Spares v (held_by b) m (held_by theirs) → IsSpared v b m theirs after → is_some after ≡ true
spared_lives v b m theirs after h s (inl e) = ap is_some e ∙ h
spared_lives v b m theirs after h s (inr e) = ap is_some e.1 ∙ joined_some (held_by b) m (held_by theirs) (subst (λ (w : Verdict). Spares w (held_by b) m (held_by theirs)) e.0 s)

-- and where there is none, none is
joined_none : (b m theirs : Option Content) → m ≡ None → all_joined b m theirs ≡ None
joined_none None m theirs h = refl
joined_none (Some b) None theirs h = refl
joined_none (Some b) (Some m) theirs h = absurd (true≢false (ap is_some h))

spared_gone : (v : Verdict) (b : Base) (m : Option Content) (theirs : Base) (after : Option Content) → m ≡ None → IsSpared v b m theirs after → after ≡ None
spared_gone v b m theirs after h (inl e) = e ∙ h
spared_gone v b m theirs after h (inr e) = e.1 ∙ joined_none (held_by b) m (held_by theirs) h

bared_gone : (n : Bool) (o : Option Entry) → mine_at o ≡ None → mine_at (bared n o) ≡ None
bared_gone true None h = refl
bared_gone false None h = refl
bared_gone n (Some Incomplete) h = refl
bared_gone n (Some (Known b (Some c) f)) h = h
bared_gone n (Some (Known b None f)) h = by (n && not (is_some (held_by (known_base b f))))
  where
    by : (a : Bool) → mine_at (cond a (Some Incomplete) (Some (Known b None f))) ≡ None
    by true = refl
    by false = refl

module _ (t : TableValue) (m : ToldEntries) (k : Key) (b : Base) (mine : Option Content) (f : Option Conflict) (sound : IsSound t) (is : entry_of t k ≡ Some (Known b mine f)) (changed : is_changed (Known b mine f) ≡ true) where
  abbrev verdict : Verdict
  verdict = verdict_by (Some (Known b mine f)) (fin.get m k)

  -- what its case makes of it
  abbrev entry : Option Entry
  entry = staged verdict (Some (Known b mine f)) (theirs_at m k)

  spared : Spares verdict (held_by b) mine (held_by (theirs_at m k))
  spared = spares b mine f (fin.get m k) (not_withdrawn b mine f (sound.entries k (Known b mine f) is).conflict changed) changed

  content : IsSpared verdict b mine (theirs_at m k) (mine_at entry)
  content = staged_spared verdict b mine f (theirs_at m k) spared

  -- it is no candidate
  after : entry_of (merged t m) k ≡ cond (has is_key (wanted (stage_of t m) (both_keys t m)) k) (option_map back entry) (bared (named (stage_of t m) (both_keys t m) k) entry)
  after = merged_at t m k
      ∙ ap (λ (o : Option Entry). outcome o (fin.get m k) (has is_key (held (stage_of t m) (both_keys t m)) k) (has is_key (wanted (stage_of t m) (both_keys t m)) k) (named (stage_of t m) (both_keys t m) k)) is
      ∙ ap (λ (c : Bool). settled c (has is_key (held (stage_of t m) (both_keys t m)) k) (has is_key (wanted (stage_of t m) (both_keys t m)) k) (named (stage_of t m) (both_keys t m) k) (theirs_at m k) entry) (firm verdict (held_by b) mine (held_by (theirs_at m k)) spared)

  -- and where it is wanted, it was lost
  lost : has is_key (wanted (stage_of t m) (both_keys t m)) k ≡ true → is_some (lost_of entry) ≡ true
  lost h =
      sym (ap (λ (c : Bool). is_some (cond c None (lost_of entry))) (firm verdict (held_by b) mine (held_by (theirs_at m k)) spared))
      ∙ sym (ap (λ (o : Option Entry). is_some (cond (is_candidate (verdict_by o (fin.get m k))) None (lost_of (staged (verdict_by o (fin.get m k)) o (theirs_at m k))))) is)
      ∙ wanted_lost (stage_of t m) (both_keys t m) k h

  -- where it lives, it keeps its content, or has the one that comes of both sides',
  pub change_stays : is_some mine ≡ true → IsSpared (verdict_at t m k) b mine (theirs_at m k) (mine_at (entry_of (merged t m) k))
  change_stays living =
      subst (λ (o : Option Entry). IsSpared (verdict_at t m k) b mine (theirs_at m k) (mine_at o)) (sym (after ∙ by (has is_key (wanted (stage_of t m) (both_keys t m)) k) refl))
      (subst (λ (w : Verdict). IsSpared w b mine (theirs_at m k) (mine_at entry)) (sym (ap (λ (o : Option Entry). verdict_by o (fin.get m k)) is)) content)
    where
      there : IsThere entry
      there = there_if_mine entry (spared_lives verdict b mine (theirs_at m k) (mine_at entry) living spared content)

      by : (w : Bool) → has is_key (wanted (stage_of t m) (both_keys t m)) k ≡ w → cond w (option_map back entry) (bared (named (stage_of t m) (both_keys t m) k) entry) ≡ entry
      by true h = absurd (there_found entry there (lost h))
      by false h = bared_kept (named (stage_of t m) (both_keys t m) k) entry there

  -- and where it is deleted, it stays so or is in conflict
  pub deletion_stays : mine ≡ None → (mine_at (entry_of (merged t m) k) ≡ None) ⊎ (in_conflict (entry_of (merged t m) k) ≡ true)
  deletion_stays none = by (has is_key (wanted (stage_of t m) (both_keys t m)) k) refl after
    where
      by : (w : Bool) → has is_key (wanted (stage_of t m) (both_keys t m)) k ≡ w → entry_of (merged t m) k ≡ cond w (option_map back entry) (bared (named (stage_of t m) (both_keys t m) k) entry)
          → (mine_at (entry_of (merged t m) k) ≡ None) ⊎ (in_conflict (entry_of (merged t m) k) ≡ true)
      by true h e = inr (ap in_conflict e ∙ back_conflict entry (lost h))
      by false h e = inl (ap mine_at e ∙ bared_gone (named (stage_of t m) (both_keys t m) k) entry (spared_gone verdict b mine (theirs_at m k) (mine_at entry) none content))
