-- What was edited here is kept in a merge.
use Rattle.std.proofs.Common.{Ok, ◌≡◌, ◌==◌, ◌||◌, ◌&&◌, not, ℕ, nat_lt, Bool, true, false, Option, Some, None, is_some, cond, refl, sym, ◌∙◌, ap, subst, inl, inr}
use Rattle.std.specs.FinMap as fin
use Rattle.std.proofs.lemmas.Bool.{true≢false, and_parts, or_left, or_right}
use Rattle.osm_base.specs.Rank.{is_key}
use Rattle.osm_base.specs.declared.key.Key.{Key}
use Rattle.osm_base.specs.declared.content.Content.{Content}
use Rattle.osm_base.proofs.Tests.{by_bool}
use Rattle.osm_table.specs.declared.entry.Base.{Base}
use Rattle.osm_table.specs.declared.entry.Conflict.{Conflict}
use Rattle.osm_table.specs.declared.entry.Why.TheVariants.{Changed, Withdrawn}
use Rattle.osm_table.specs.declared.entry.Entry.{Entry}
use Rattle.osm_table.specs.declared.entry.Entry.TheVariants.{Incomplete, Known}
use Rattle.osm_table.specs.declared.told.Told.{Told}
use Rattle.osm_table.specs.declared.told.Told.TheVariants as told
use Rattle.osm_table.specs.Table.{TableValue, entry_of, held_by, known_base, version_of, is_changed}
use Rattle.osm_table.specs.Told.{ToldEntries, ToldValue}
use Rattle.osm_table.specs.Same.{same_mine}
use Rattle.osm_table.proofs.SameLaws.{same_mine_decides}
use Rattle.closure.specs.Closure.{has}
use Rattle.merge_cases.specs.declared.verdict.Verdict.{Verdict}
use Rattle.merge_cases.specs.declared.verdict.Verdict.TheVariants.{Stay, Mention, Take, Clash, Keep, Candidate, Settle, Join, Dispute}
use Rattle.merge_cases.specs.Case.{known_case, newer_case, changed_case, unchanged_case, withdrawn_case, same_version_case, all_join, is_withdrawn}
use Rattle.tool_api.specs.declared.job.Job.TheVariants as job
use Rattle.tool_api.specs.declared.refusal.Refusal.{Refusal}
use Rattle.tool_api.specs.Checks.{◌>>◌}
use Rattle.tool_api.specs.Changes.{done}
use Rattle.tool_api.specs.Closing.{room_test}
use Rattle.tool_api.specs.Staged.{staged, stage_of, theirs_at, is_candidate, all_joined, lost_of}
use Rattle.tool_api.specs.Merged.{both_keys, wanted, held, named, merged, clash_test}
use Rattle.tool_api.specs.Plain.{answered, plain}
use Rattle.job_laws.proofs.MergeRows.{theirs_by, verdict_by, joined_some}
use Rattle.job_laws.proofs.MergeStand.{settled, wanted_lost}
use Rattle.job_laws.proofs.MergeOutcome.{outcome, merged_at}
use Rattle.editor_laws.specs.Bases.{HasSide}
use Rattle.editor_laws.specs.Kept.{wish, is_edited, is_told_gone, is_gone_there, IsSeenSide, IsToSend, Keeps, StandsOn}
use Rattle.editor_laws.specs.Telling.{IsToldSide}

-- What a case makes of a changed object that didn't come back.
abbrev Spares : Verdict → Option Content → Option Content → Option Content → Type 0
Spares Stay base mine theirs = Unit {0}
Spares Mention base mine theirs = ⊥
Spares Take base mine theirs = ⊥
Spares Clash base mine theirs = Unit {0}
Spares Keep base mine theirs = ⊥
Spares Candidate base mine theirs = ⊥
Spares Settle base mine theirs = mine ≡ theirs
Spares Join base mine theirs = all_join base mine theirs ≡ true
Spares Dispute base mine theirs = Unit {0}

one_version_spares : (b m known theirs : Option Content) → Spares (same_version_case known theirs) b m theirs
one_version_spares b m None None = tt
one_version_spares b m None (Some t) = tt
one_version_spares b m (Some k) None = tt
one_version_spares b m (Some k) (Some t) = tt

changed_spares : (b m theirs : Option Content) → Spares (changed_case b m theirs) b m theirs
changed_spares b m theirs = by (same_mine m theirs) (all_join b m theirs) refl refl
  where
    by : (s j : Bool) → same_mine m theirs ≡ s → all_join b m theirs ≡ j → Spares (cond s Settle (cond j Join Dispute)) b m theirs
    by true j e f = (same_mine_decides m theirs).0 e
    by false true e f = f
    by false false e f = tt

newer_spares : (b : Base) (m : Option Content) (f : Option Conflict) (theirs : Option Content) → is_withdrawn f ≡ false → is_changed (Known b m f) ≡ true → Spares (newer_case b m f theirs) (held_by b) m theirs
newer_spares b m f theirs w c = by (is_withdrawn f) (is_changed (Known b m f)) w c
  where
    by : (r s : Bool) → r ≡ false → s ≡ true → Spares (cond r (withdrawn_case theirs) (cond s (changed_case (held_by b) m theirs) (unchanged_case m theirs))) (held_by b) m theirs
    by true s e g = absurd (true≢false e)
    by false true e g = changed_spares (held_by b) m theirs
    by false false e g = absurd (true≢false (sym g))

known_spares : (b : Base) (m : Option Content) (f : Option Conflict) (version : ℕ) (theirs : Option Content) → is_withdrawn f ≡ false → is_changed (Known b m f) ≡ true → Spares (known_case b m f version theirs) (held_by b) m theirs
known_spares b m f version theirs w c = by (nat_lt version (version_of (known_base b f))) (version == version_of (known_base b f))
  where
    by : (older same : Bool) → Spares (cond older Stay (cond same (same_version_case (held_by (known_base b f)) theirs) (newer_case b m f theirs))) (held_by b) m theirs
    by true same = tt
    by false true = one_version_spares (held_by b) m (held_by (known_base b f)) theirs
    by false false = newer_spares b m f theirs w c

spares : (b : Base) (m : Option Content) (f : Option Conflict) (s : Option Told) → is_withdrawn f ≡ false → is_changed (Known b m f) ≡ true → Spares (verdict_by (Some (Known b m f)) s) (held_by b) m (held_by (theirs_by s))
spares b m f None w c = tt
spares b m f (Some told.Mentioned) w c = tt
spares b m f (Some (told.Live version content meta)) w c = known_spares b m f version (Some content) w c
spares b m f (Some (told.Gone version meta)) w c = known_spares b m f version None w c

-- What a case makes of one that came back.
abbrev Withdraws : Verdict → Option Content → Type 0
Withdraws Stay theirs = Unit {0}
Withdraws Mention theirs = ⊥
Withdraws Take theirs = ⊥
Withdraws Clash theirs = Unit {0}
Withdraws Keep theirs = Unit {0}
Withdraws Candidate theirs = theirs ≡ None
Withdraws Settle theirs = ⊥
Withdraws Join theirs = ⊥
Withdraws Dispute theirs = ⊥

one_version_withdraws : (known theirs : Option Content) → Withdraws (same_version_case known theirs) theirs
one_version_withdraws None None = tt
one_version_withdraws None (Some t) = tt
one_version_withdraws (Some k) None = tt
one_version_withdraws (Some k) (Some t) = tt

newest_withdraws : (theirs : Option Content) → Withdraws (withdrawn_case theirs) theirs
newest_withdraws None = refl
newest_withdraws (Some t) = tt

known_withdraws : (b : Base) (m : Option Content) (f : Option Conflict) (version : ℕ) (theirs : Option Content) → is_withdrawn f ≡ true → Withdraws (known_case b m f version theirs) theirs
known_withdraws b m f version theirs w = by (nat_lt version (version_of (known_base b f))) (version == version_of (known_base b f))
  where
    newer : (r : Bool) → r ≡ true → Withdraws (cond r (withdrawn_case theirs) (cond (is_changed (Known b m f)) (changed_case (held_by b) m theirs) (unchanged_case m theirs))) theirs
    newer true e = newest_withdraws theirs
    newer false e = absurd (true≢false (sym e))

    by : (older same : Bool) → Withdraws (cond older Stay (cond same (same_version_case (held_by (known_base b f)) theirs) (newer_case b m f theirs))) theirs
    by true same = tt
    by false true = one_version_withdraws (held_by (known_base b f)) theirs
    by false false = newer (is_withdrawn f) w

withdraws : (b : Base) (m : Option Content) (f : Option Conflict) (s : Option Told) → is_withdrawn f ≡ true → Withdraws (verdict_by (Some (Known b m f)) s) (held_by (theirs_by s))
withdraws b m f None w = tt
withdraws b m f (Some told.Mentioned) w = tt
withdraws b m f (Some (told.Live version content meta)) w = known_withdraws b m f version (Some content) w
withdraws b m f (Some (told.Gone version meta)) w = known_withdraws b m f version None w

-- What is said over all, of one that is no candidate.

-- it comes back where it is lost alone
abbrev IfLost : Bool → Option Entry → Type 0
IfLost w entry = w ≡ true → is_some (lost_of entry) ≡ true

-- what lives stays,
living_stays : (P : Option Entry → Type 0) (h w n : Bool) (theirs b : Base) (c : Content) (f : Option Conflict) → IfLost w (Some (Known b (Some c) f)) → P (Some (Known b (Some c) f)) → P (settled false h w n theirs (Some (Known b (Some c) f)))
living_stays P h true n theirs b c f lost p = absurd (true≢false (sym (lost refl)))
living_stays P h false n theirs b c f lost p = p

-- Sides of an entry, and what stays as it is.

own_side : (b : Base) (m : Option Content) (f : Option Conflict) → HasSide (Some (Known b m f)) b
own_side b m None = refl
own_side b m (Some x) = inl refl

last_side : (b : Base) (m : Option Content) (f : Option Conflict) → HasSide (Some (Known b m f)) (known_base b f)
last_side b m None = refl
last_side b m (Some x) = inr refl

stands_still : (told : Option Told) (b : Base) (m : Option Content) (f : Option Conflict) → StandsOn told (Known b m f) b f
stands_still told b m None = (refl, refl)
stands_still told b m (Some x) = (inl (inl refl), inl (inr refl))

still_to_send : (told : Option Told) (e : Entry) → is_edited e ≡ true → IsToSend told e (Some e)
still_to_send told Incomplete edited = absurd (true≢false (sym edited))
still_to_send told (Known b m f) edited = (edited, refl, stands_still told b m f)

-- and what is wanted gone is so after it; its name alone is left where the server holds nothing either
abbrev HoldsNone : Base → Option Conflict → Type 0
HoldsNone b f = not (is_some (held_by (known_base b f))) ≡ true

module _ (told : Option Told) (e : Entry) (gone : wish (Some e) ≡ None) where
  stays_gone : (h w n : Bool) (theirs b : Base) (m : Option Content) (f : Option Conflict) → Keeps told e (Some (Known b m f)) → IsSeenSide told e (known_base b f) → (HoldsNone b f → is_gone_there told e ≡ true) → Keeps told e (settled false h w n theirs (Some (Known b m f)))
  stays_gone h true n theirs b m f kept seen there = inl (refl, sym gone, (seen, seen))
  stays_gone h false n theirs b (Some c) f kept seen there = kept
  stays_gone h false n theirs b None f kept seen there = by (n && not (is_some (held_by (known_base b f)))) refl
    where
      by : (bare : Bool) → (n && not (is_some (held_by (known_base b f)))) ≡ bare → Keeps told e (cond bare (Some Incomplete) (Some (Known b None f)))
      by true h = inr (inr (gone, there (and_parts n (not (is_some (held_by (known_base b f)))) h).1))
      by false h = kept

-- Where a case comes of what the server is told to hold, and that is nothing, the object is told of as deleted.
told_gone : (e : Entry) (told : Option Told) (v : Verdict) → verdict_by (Some e) told ≡ v → (v ≡ Stay → ⊥) → not (is_some (held_by (theirs_by told))) ≡ true → is_told_gone told ≡ true
told_gone e None v is other none = absurd (other (sym is))
told_gone e (Some told.Mentioned) v is other none = absurd (other (sym is))
told_gone e (Some (told.Live version content meta)) v is other none = absurd (true≢false (sym none))
told_gone e (Some (told.Gone version meta)) v is other none = refl

-- and what it holds is told
told_there : (e : Entry) (told : Option Told) (v : Verdict) → verdict_by (Some e) told ≡ v → (v ≡ Stay → ⊥) → IsToldSide told (theirs_by told)
told_there e None v is other = absurd (other (sym is))
told_there e (Some told.Mentioned) v is other = absurd (other (sym is))
told_there e (Some (told.Live version content meta)) v is other = refl
told_there e (Some (told.Gone version meta)) v is other = refl

wish_is : (b : Base) (m : Option Content) (f : Option Conflict) → is_withdrawn f ≡ false → wish (Some (Known b m f)) ≡ m
wish_is b m f w = ap (λ r. cond r None m) w

wish_gone : (b : Base) (m : Option Content) (f : Option Conflict) → is_withdrawn f ≡ true → wish (Some (Known b m f)) ≡ None
wish_gone b m f w = ap (λ r. cond r None m) w

-- a lost object as its case leaves it, where it is no candidate
abbrev LostAfter : Verdict → Entry → Base → Bool → Type 0
LostAfter v e theirs w = w ≡ true → is_some (cond (is_candidate v) None (lost_of (staged v (Some e) theirs))) ≡ true

-- what it has in the end
abbrev ends : Verdict → Entry → Base → Bool → Bool → Bool → Option Entry
ends v e theirs h w n = settled (is_candidate v) h w n theirs (staged v (Some e) theirs)

not_stay_settle : Settle ≡ Stay → ⊥
not_stay_settle x = let other : Settle ≡ Stay = x in absurd cc

not_stay_join : Join ≡ Stay → ⊥
not_stay_join x = let other : Join ≡ Stay = x in absurd cc

not_stay_dispute : Dispute ≡ Stay → ⊥
not_stay_dispute x = let other : Dispute ≡ Stay = x in absurd cc

not_stay_keep : Keep ≡ Stay → ⊥
not_stay_keep x = let other : Keep ≡ Stay = x in absurd cc

not_stay_candidate : Candidate ≡ Stay → ⊥
not_stay_candidate x = let other : Candidate ≡ Stay = x in absurd cc

module _ (told : Option Told) (b : Base) (c : Content) (f : Option Conflict) (h w n : Bool) (free : is_withdrawn f ≡ false) (edited : is_edited (Known b (Some c) f) ≡ true) (changes : is_changed (Known b (Some c) f) ≡ true) where
  abbrev e : Entry
  e = Known b (Some c) f

  abbrev theirs : Base
  theirs = theirs_by told

  same_content : (d : Base) (g : Option Conflict) → Keeps told e (Some (Known d (Some c) g)) → IfLost w (Some (Known d (Some c) g)) → Keeps told e (settled false h w n theirs (Some (Known d (Some c) g)))
  same_content d g kept lost = living_stays (Keeps told e) h w n theirs d c g lost kept

  settled_content : IsToldSide told theirs → (x : Option Content) → Some c ≡ x → x ≡ held_by theirs → IfLost w (Some (Known theirs x None)) → Keeps told e (settled false h w n theirs (Some (Known theirs x None)))
  settled_content side x is = subst (λ (x : Option Content). x ≡ held_by theirs → IfLost w (Some (Known theirs x None)) → Keeps told e (settled false h w n theirs (Some (Known theirs x None)))) is
      (λ same. same_content theirs None (inr (inr (side, sym same ∙ sym (wish_is b (Some c) f free), same))))

  joined_content : IsToldSide told theirs → (x : Option Content) → x ≡ all_joined (held_by b) (Some c) (held_by theirs) → is_some x ≡ true → IfLost w (Some (Known theirs x None)) → Keeps told e (settled false h w n theirs (Some (Known theirs x None)))
  joined_content side None is some lost = absurd (true≢false (sym some))
  joined_content side (Some d) is some lost = living_stays (Keeps told e) h w n theirs theirs d None lost (inr (inl (side, refl, is)))

  keeps_living : (v : Verdict) → verdict_by (Some e) told ≡ v → Spares v (held_by b) (Some c) (held_by theirs) → LostAfter v e theirs w → Keeps told e (ends v e theirs h w n)
  keeps_living Stay is s lost = same_content b f (inl (still_to_send told e edited)) lost
  keeps_living Mention is s lost = absurd s
  keeps_living Take is s lost = absurd s
  keeps_living Clash is s lost = same_content b f (inl (still_to_send told e edited)) lost
  keeps_living Keep is s lost = absurd s
  keeps_living Candidate is s lost = absurd s
  keeps_living Settle is s lost = settled_content (told_there e told Settle is not_stay_settle) (held_by theirs) s refl lost
  keeps_living Join is s lost = joined_content (told_there e told Join is not_stay_join) (all_joined (held_by b) (Some c) (held_by theirs)) refl (joined_some (held_by b) (Some c) (held_by theirs) s) lost
  keeps_living Dispute is s lost =
      same_content b (Some (record { why = Changed; theirs = theirs })) (inl (changes, sym (wish_is b (Some c) f free), (inl (own_side b (Some c) f), inr (told_there e told Dispute is not_stay_dispute)))) lost

joins_none : (b t : Option Content) → all_join b None t ≡ true → ⊥
joins_none None t h = true≢false (sym h)
joins_none (Some b) t h = true≢false (sym h)

-- what one that doesn't live, or came back, has in the end
module _ (told : Option Told) (b : Base) (m : Option Content) (f : Option Conflict) (h w n : Bool) (gone : wish (Some (Known b m f)) ≡ None) where
  -- it stays,
  as_it_is : is_edited (Known b m f) ≡ true → Keeps told (Known b m f) (settled false h w n (theirs_by told) (Some (Known b m f)))
  as_it_is edited =
      stays_gone told (Known b m f) gone h w n (theirs_by told) b m f (inl (still_to_send told (Known b m f) edited)) (inl (last_side b m f)) (or_right (is_told_gone told) (not (is_some (held_by (known_base b f)))))

  -- or the server's side is what is told
  by_told : (d : Base) (x : Option Content) (g : Option Conflict) (v : Verdict) → verdict_by (Some (Known b m f)) told ≡ v → (v ≡ Stay → ⊥) → known_base d g ≡ theirs_by told → (IsToldSide told (theirs_by told) → Keeps told (Known b m f) (Some (Known d x g)))
      → Keeps told (Known b m f) (settled false h w n (theirs_by told) (Some (Known d x g)))
  by_told d x g v is other same kept =
      let side = told_there (Known b m f) told v is other in
      stays_gone told (Known b m f) gone h w n (theirs_by told) d x g (kept side) (inr (subst (IsToldSide told) (sym same) side))
      (λ none. or_left (is_told_gone told) (not (is_some (held_by (known_base b f)))) (told_gone (Known b m f) told v is other (ap (λ (y : Base). not (is_some (held_by y))) (sym same) ∙ none)))

keeps_deleted : (told : Option Told) (b : Base) (f : Option Conflict) (h w n : Bool) → is_withdrawn f ≡ false → is_edited (Known b None f) ≡ true → is_changed (Known b None f) ≡ true
    → (v : Verdict) → verdict_by (Some (Known b None f)) told ≡ v → Spares v (held_by b) None (held_by (theirs_by told)) → Keeps told (Known b None f) (ends v (Known b None f) (theirs_by told) h w n)
keeps_deleted told b f h w n free edited changes = by
  where
    gone : wish (Some (Known b None f)) ≡ None
    gone = wish_is b None f free

    by : (v : Verdict) → verdict_by (Some (Known b None f)) told ≡ v → Spares v (held_by b) None (held_by (theirs_by told)) → Keeps told (Known b None f) (ends v (Known b None f) (theirs_by told) h w n)
    by Stay is s = as_it_is told b None f h w n gone edited
    by Mention is s = absurd s
    by Take is s = absurd s
    by Clash is s = as_it_is told b None f h w n gone edited
    by Keep is s = absurd s
    by Candidate is s = absurd s
    by Settle is s = by_told told b None f h w n gone (theirs_by told) (held_by (theirs_by told)) None Settle is not_stay_settle refl (λ side. inr (inr (side, sym s ∙ sym gone, refl)))
    by Join is s = absurd (joins_none (held_by b) (held_by (theirs_by told)) s)
    by Dispute is s =
        by_told told b None f h w n gone b None (Some (record { why = Changed; theirs = theirs_by told })) Dispute is not_stay_dispute refl
        (λ side. inl (changes, sym gone, (inl (own_side b None f), inr side)))

keeps_withdrawn : (told : Option Told) (b : Base) (m : Option Content) (f : Option Conflict) (h w n : Bool) → is_withdrawn f ≡ true → is_edited (Known b m f) ≡ true
    → (v : Verdict) → verdict_by (Some (Known b m f)) told ≡ v → Withdraws v (held_by (theirs_by told)) → Keeps told (Known b m f) (ends v (Known b m f) (theirs_by told) h w n)
keeps_withdrawn told b m f h w n came edited = by
  where
    gone : wish (Some (Known b m f)) ≡ None
    gone = wish_gone b m f came

    candidate : (h : Bool) → IsToldSide told (theirs_by told) → held_by (theirs_by told) ≡ None → Keeps told (Known b m f) (settled true h w n (theirs_by told) (Some (Known b m f)))
    candidate true side s = inr (inr (side, s ∙ sym gone, own_side b m f))
    candidate false side s = inr (inr (side, s ∙ sym gone, sym s))

    by : (v : Verdict) → verdict_by (Some (Known b m f)) told ≡ v → Withdraws v (held_by (theirs_by told)) → Keeps told (Known b m f) (ends v (Known b m f) (theirs_by told) h w n)
    by Stay is s = as_it_is told b m f h w n gone edited
    by Mention is s = absurd s
    by Take is s = absurd s
    by Clash is s = as_it_is told b m f h w n gone edited
    by Keep is s =
        by_told told b m f h w n gone (theirs_by told) (held_by (theirs_by told)) (Some (record { why = Withdrawn; theirs = theirs_by told })) Keep is not_stay_keep refl
        (λ side. inl (refl, sym gone, (inr side, inr side)))
    by Candidate is s = candidate h (told_there (Known b m f) told Candidate is not_stay_candidate) s
    by Settle is s = absurd s
    by Join is s = absurd s
    by Dispute is s = absurd s

module _ (t : TableValue) (m : ToldEntries) (k : Key) (e : Entry) (is : entry_of t k ≡ Some e) where
  abbrev verdict : Verdict
  verdict = verdict_by (Some e) (fin.get m k)

  abbrev is_held : Bool
  is_held = has is_key (held (stage_of t m) (both_keys t m)) k

  abbrev is_wanted : Bool
  is_wanted = has is_key (wanted (stage_of t m) (both_keys t m)) k

  abbrev is_named : Bool
  is_named = named (stage_of t m) (both_keys t m) k

  at_end : entry_of (merged t m) k ≡ ends verdict e (theirs_at m k) is_held is_wanted is_named
  at_end = merged_at t m k ∙ ap (λ (o : Option Entry). outcome o (fin.get m k) is_held is_wanted is_named) is

  lost : LostAfter verdict e (theirs_at m k) is_wanted
  lost h =
      sym (ap (λ (o : Option Entry). is_some (cond (is_candidate (verdict_by o (fin.get m k))) None (lost_of (staged (verdict_by o (fin.get m k)) o (theirs_at m k))))) is)
      ∙ wanted_lost (stage_of t m) (both_keys t m) k h

pub merged_keeps : (t : TableValue) (m : ToldEntries) (k : Key) (e : Entry) → entry_of t k ≡ Some e → is_edited e ≡ true → Keeps (fin.get m k) e (entry_of (merged t m) k)
merged_keeps t m k Incomplete is edited = absurd (true≢false (sym edited))
merged_keeps t m k (Known b mine f) is edited =
    subst (Keeps (fin.get m k) (Known b mine f)) (sym (at_end t m k (Known b mine f) is)) (by_bool (is_withdrawn f)
    (λ came. keeps_withdrawn (fin.get m k) b mine f _ _ _ came edited (verdict t m k (Known b mine f) is) refl (withdraws b mine f (fin.get m k) came))
    (λ free. changed mine is free edited (sym (ap (λ r. r || is_changed (Known b mine f)) free) ∙ edited)))
  where
    changed : (mine : Option Content) (is : entry_of t k ≡ Some (Known b mine f)) → is_withdrawn f ≡ false → is_edited (Known b mine f) ≡ true → is_changed (Known b mine f) ≡ true
        → Keeps (fin.get m k) (Known b mine f) (ends (verdict t m k (Known b mine f) is) (Known b mine f) (theirs_at m k) (is_held t m k (Known b mine f) is) (is_wanted t m k (Known b mine f) is) (is_named t m k (Known b mine f) is))
    changed None is free edited changes = keeps_deleted (fin.get m k) b f _ _ _ free edited changes (verdict t m k (Known b None f) is) refl (spares b None f (fin.get m k) free changes)
    changed (Some c) is free edited changes =
        keeps_living (fin.get m k) b c f _ _ _ free edited changes (verdict t m k (Known b (Some c) f) is) refl (spares b (Some c) f (fin.get m k) free changes) (lost t m k (Known b (Some c) f) is)

-- what stays is kept
pub same_kept : (told : Option Told) (e : Entry) (after : Option Entry) → is_edited e ≡ true → after ≡ Some e → Keeps told e after
same_kept told e after edited is = subst (Keeps told e) (sym is) (inl (still_to_send told e edited))

module _ (t : TableValue) (k : Key) (e : Entry) (is : entry_of t k ≡ Some e) where
  tested : (told : Option Told) (o : Option Refusal) (u : TableValue) (p : Option Refusal) → is_edited e ≡ true → Keeps told e (entry_of u k) → Keeps told e (entry_of (answered t (o >> (p >> Ok (done u)))).table k)
  tested told (Some r) u p edited h = same_kept told e (entry_of t k) edited is
  tested told None u (Some r) edited h = same_kept told e (entry_of t k) edited is
  tested told None u None edited h = h

  -- What was edited is kept in a download.
  pub merge_keeps : (told : ToldValue) (limit : ℕ) → is_edited e ≡ true → Keeps (fin.get told.told k) e (entry_of (plain (job.Merge told) t limit).table k)
  merge_keeps told limit edited = tested (fin.get told.told k) (clash_test t told.told) (merged t told.told) (room_test limit (merged t told.told)) edited (merged_keeps t told.told k e is edited)
