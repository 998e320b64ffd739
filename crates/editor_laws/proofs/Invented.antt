-- No job makes edits that it doesn't list.
use Rattle.std.proofs.Common.{Ok, ◌≡◌, ◌⊎◌, ◌==◌, ◌&&◌, not, ℕ, nat_lt, Bool, true, false, Option, Some, None, is_some, cond, refl, sym, ◌∙◌, ap, subst, inl, inr}
use Rattle.std.specs.FinMap as fin
use Rattle.std.proofs.lemmas.Bool.{true≢false, or_parts}
use Rattle.osm_base.specs.Rank.{is_key}
use Rattle.osm_base.specs.declared.key.Key.{Key}
use Rattle.osm_base.specs.declared.content.Content.{Content}
use Rattle.osm_base.specs.declared.meta.Meta.{Meta}
use Rattle.osm_base.proofs.Tests.{by_bool}
use Rattle.osm_table.specs.declared.entry.Base.{Base}
use Rattle.osm_table.specs.declared.entry.Base.TheVariants as base
use Rattle.osm_table.specs.declared.entry.Conflict.{Conflict}
use Rattle.osm_table.specs.declared.entry.Why.{Why}
use Rattle.osm_table.specs.declared.entry.Why.TheVariants.{Changed, Held, Withdrawn}
use Rattle.osm_table.specs.declared.entry.Entry.{Entry}
use Rattle.osm_table.specs.declared.entry.Entry.TheVariants.{Incomplete, Known}
use Rattle.osm_table.specs.declared.told.Told.{Told}
use Rattle.osm_table.specs.declared.told.Told.TheVariants as told
use Rattle.osm_table.specs.Table.{TableValue, base_of, entry_of, held_by, is_new, known_base, version_of, is_changed}
use Rattle.osm_table.specs.Told.{ToldEntries}
use Rattle.osm_table.specs.Same.{same_mine}
use Rattle.osm_table.proofs.SameLaws.{same_mine_decides}
use Rattle.dataset.specs.Sound.{IsSound, ConflictFits, WhyFits}
use Rattle.closure.specs.Closure.{has}
use Rattle.merge_cases.specs.declared.verdict.Verdict.{Verdict}
use Rattle.merge_cases.specs.declared.verdict.Verdict.TheVariants.{Stay, Mention, Take, Clash, Keep, Candidate, Settle, Join, Dispute}
use Rattle.merge_cases.specs.Case.{known_case, newer_case, changed_case, unchanged_case, withdrawn_case, same_version_case, is_withdrawn}
use Rattle.tool_api.specs.declared.job.Job.{Job}
use Rattle.tool_api.specs.declared.job.Job.TheVariants as job
use Rattle.tool_api.specs.declared.refusal.Refusal.{Refusal}
use Rattle.tool_api.specs.declared.reply.Reply.{Reply}
use Rattle.tool_api.specs.declared.reply.Reply.TheVariants as reply
use Rattle.tool_api.specs.Checks.{◌>>◌}
use Rattle.tool_api.specs.Changes.{done}
use Rattle.tool_api.specs.Closing.{room_test}
use Rattle.tool_api.specs.Staged.{staged, stage_of, is_candidate, lost_of, bared, is_dead}
use Rattle.tool_api.specs.Merged.{both_keys, wanted, held, named, merged, clash_test}
use Rattle.tool_api.specs.Plain.{answered, plain}
use Rattle.edit_history.specs.declared.counts.Group.{Group}
use Rattle.edit_history.specs.declared.counts.Group.TheVariants.{Outside, Running, Refused}
use Rattle.edit_history.specs.Machine.{State, done_in, refused_in, ran}
use Rattle.edit_history.specs.Steps.{job_move}
use Rattle.job_laws.proofs.MergeRows.{HasFits, theirs_by, verdict_by, live_held}
use Rattle.job_laws.proofs.MergeStand.{settled, wanted_lost}
use Rattle.job_laws.proofs.MergeOutcome.{outcome, merged_at}
use Rattle.editor_laws.specs.Bases.{HasSide}
use Rattle.editor_laws.specs.Editing.{is_merge}
use Rattle.editor_laws.specs.Invented.{InventsNone, IsMade, JobInventsNone, WasEdited}
use Rattle.editor_laws.specs.Kept.{is_edited}
use Rattle.editor_laws.specs.Listed.{lists}
use Rattle.editor_laws.specs.Steps.{gives_up, job_says}
use Rattle.editor_laws.proofs.KeptJobs.{job_leaves}
use Rattle.editor_laws.proofs.SeenJobs.{job_keeps}

-- whether what stands there is edited
abbrev edited_at : Option Entry → Bool
edited_at None = false
edited_at (Some e) = is_edited e

-- what isn't edited isn't changed, and didn't come back
abbrev IsCalm : Base → Option Content → Option Conflict → Type 0
IsCalm b m f = (is_withdrawn f ≡ false) × (is_changed (Known b m f) ≡ false)

calm : (b : Base) (m : Option Content) (f : Option Conflict) → is_edited (Known b m f) ≡ false → IsCalm b m f
calm b m f h = or_parts (is_withdrawn f) (is_changed (Known b m f)) h

-- mine is what the base holds
as_base : (b : Base) (m : Option Content) (f : Option Conflict) → is_changed (Known b m f) ≡ false → m ≡ held_by b
as_base b m f h = (same_mine_decides m (held_by b)).0 (by (same_mine m (held_by b)) (or_parts (is_new b) (not (same_mine m (held_by b))) h).1)
  where
    by : (s : Bool) → not s ≡ false → s ≡ true
    by true e = refl
    by false e = absurd (true≢false e)

-- What a case makes of one that isn't edited.
abbrev Leaves : Verdict → Option Content → Type 0
Leaves Stay theirs = Unit {0}
Leaves Mention theirs = ⊥
Leaves Take theirs = Unit {0}
Leaves Clash theirs = Unit {0}
Leaves Keep theirs = ⊥
Leaves Candidate theirs = theirs ≡ None
Leaves Settle theirs = ⊥
Leaves Join theirs = ⊥
Leaves Dispute theirs = ⊥

same_leaves : (known theirs : Option Content) → Leaves (same_version_case known theirs) theirs
same_leaves None None = tt
same_leaves None (Some t) = tt
same_leaves (Some k) None = tt
same_leaves (Some k) (Some t) = tt

unchanged_leaves : (m theirs : Option Content) → Leaves (unchanged_case m theirs) theirs
unchanged_leaves None None = tt
unchanged_leaves None (Some t) = tt
unchanged_leaves (Some m) None = refl
unchanged_leaves (Some m) (Some t) = tt

newer_leaves : (b : Base) (m : Option Content) (f : Option Conflict) (theirs : Option Content) → IsCalm b m f → Leaves (newer_case b m f theirs) theirs
newer_leaves b m f theirs c = by (is_withdrawn f) (is_changed (Known b m f)) c.0 c.1
  where
    by : (r s : Bool) → r ≡ false → s ≡ false → Leaves (cond r (withdrawn_case theirs) (cond s (changed_case (held_by b) m theirs) (unchanged_case m theirs))) theirs
    by true s e g = absurd (true≢false e)
    by false true e g = absurd (true≢false g)
    by false false e g = unchanged_leaves m theirs

known_leaves : (b : Base) (m : Option Content) (f : Option Conflict) (version : ℕ) (theirs : Option Content) → IsCalm b m f → Leaves (known_case b m f version theirs) theirs
known_leaves b m f version theirs c = by (nat_lt version (version_of (known_base b f))) (version == version_of (known_base b f))
  where
    by : (older same : Bool) → Leaves (cond older Stay (cond same (same_version_case (held_by (known_base b f)) theirs) (newer_case b m f theirs))) theirs
    by true same = tt
    by false true = same_leaves (held_by (known_base b f)) theirs
    by false false = newer_leaves b m f theirs c

-- and what is told, where it takes that
abbrev IsTold : Verdict → Option Told → Type 0
IsTold Stay s = Unit {0}
IsTold Clash s = Unit {0}
IsTold v s = is_new (theirs_by s) ≡ false

live_told : (v : Verdict) (version : ℕ) (content : Content) (meta : Meta) → IsTold v (Some (told.Live version content meta))
live_told Stay version content meta = tt
live_told Clash version content meta = tt
live_told v version content meta = refl

gone_told : (v : Verdict) (version : ℕ) (meta : Meta) → IsTold v (Some (told.Gone version meta))
gone_told Stay version meta = tt
gone_told Clash version meta = tt
gone_told v version meta = refl

leaves : (b : Base) (m : Option Content) (f : Option Conflict) (s : Option Told) → IsCalm b m f → Leaves (verdict_by (Some (Known b m f)) s) (held_by (theirs_by s)) × IsTold (verdict_by (Some (Known b m f)) s) s
leaves b m f None c = (tt, tt)
leaves b m f (Some told.Mentioned) c = (tt, tt)
leaves b m f (Some (told.Live version content meta)) c = (known_leaves b m f version (Some content) c, live_told (known_case b m f version (Some content)) version content meta)
leaves b m f (Some (told.Gone version meta)) c = (known_leaves b m f version None c, gone_told (known_case b m f version None) version meta)

-- What is said over all.

-- theirs alone isn't edited
taken_calm : (theirs : Base) → is_new theirs ≡ false → is_edited (Known theirs (held_by theirs) None) ≡ false
taken_calm base.New n = absurd (true≢false n)
taken_calm (base.Live version content meta) n = ap not ((same_mine_decides (Some content) (Some content)).1 refl)
taken_calm (base.Gone version meta) n = refl

bared_calm : (n : Bool) (o : Option Entry) → edited_at o ≡ false → edited_at (bared n o) ≡ false
bared_calm true None h = refl
bared_calm false None h = refl
bared_calm n (Some e) h = by (is_dead e && (n && not (is_some (lost_of (Some e)))))
  where
    by : (b : Bool) → edited_at (cond b (Some Incomplete) (Some e)) ≡ false
    by true = refl
    by false = h

-- Nothing is lost here that isn't edited.
not_lost_taken : (theirs : Base) → is_some (lost_of (Some (Known theirs (held_by theirs) None))) ≡ true → ⊥
not_lost_taken base.New h = true≢false (sym h)
not_lost_taken (base.Live version content meta) h = true≢false (sym h)
not_lost_taken (base.Gone version meta) h = true≢false (sym h)

lost_conflict : (w : Why) (theirs b : Base) → WhyFits w theirs b None → is_withdrawn (Some (record { why = w; theirs = theirs })) ≡ false → None ≡ held_by b → ⊥
lost_conflict Changed theirs b h free is = h.1 is
lost_conflict Held theirs b h free is = true≢false (sym (live_held b h.0) ∙ sym (ap is_some is))
lost_conflict Withdrawn theirs b h free is = true≢false free

not_lost_known : (b : Base) (m : Option Content) (f : Option Conflict) → ConflictFits b m f → is_withdrawn f ≡ false → m ≡ held_by b → is_some (lost_of (Some (Known b m f))) ≡ true → ⊥
not_lost_known b (Some c) f fits free is lost = true≢false (sym lost)
not_lost_known b None None fits free is lost = true≢false (sym lost ∙ sym (ap is_some is))
not_lost_known b None (Some x) fits free is lost = lost_conflict x.why x.theirs b fits free is

-- what is no candidate: it isn't lost, so it doesn't come back
abbrev IfLost : Bool → Option Entry → Type 0
IfLost w entry = w ≡ true → is_some (lost_of entry) ≡ true

firm_calm : (h w n : Bool) (theirs : Base) (o : Option Entry) → edited_at o ≡ false → IfLost w o → (is_some (lost_of o) ≡ true → ⊥) → edited_at (settled false h w n theirs o) ≡ false
firm_calm h true n theirs o calm lost never = absurd (never (lost refl))
firm_calm h false n theirs o calm lost never = bared_calm n o calm

none_lost : (is_some (lost_of None) ≡ true) → ⊥
none_lost h = true≢false (sym h)

incomplete_lost : (is_some (lost_of (Some Incomplete)) ≡ true) → ⊥
incomplete_lost h = true≢false (sym h)

module _ (b : Base) (m : Option Content) (f : Option Conflict) (s : Option Told) (fits : ConflictFits b m f) (quiet : is_edited (Known b m f) ≡ false) where
  abbrev theirs : Base
  theirs = theirs_by s

  as_it_is : (h w n : Bool) → IfLost w (Some (Known b m f)) → edited_at (settled false h w n theirs (Some (Known b m f))) ≡ false
  as_it_is h w n lost = firm_calm h w n theirs (Some (Known b m f)) quiet lost (not_lost_known b m f fits (calm b m f quiet).0 (as_base b m f (calm b m f quiet).1))

  candidate_calm : (h w n : Bool) → held_by theirs ≡ None → is_new theirs ≡ false → edited_at (settled true h w n theirs (Some (Known b m f))) ≡ false
  candidate_calm true w n none there = (calm b m f quiet).1
  candidate_calm false w n none there = subst (λ (x : Option Content). is_edited (Known theirs x None) ≡ false) none (taken_calm theirs there)

  known_calm : (h w n : Bool) (v : Verdict) → Leaves v (held_by theirs) → IsTold v s → IfLost w (cond (is_candidate v) None (staged v (Some (Known b m f)) theirs))
      → edited_at (settled (is_candidate v) h w n theirs (staged v (Some (Known b m f)) theirs)) ≡ false
  known_calm h w n Stay l t lost = as_it_is h w n lost
  known_calm h w n Mention l t lost = absurd l
  known_calm h w n Take l t lost = firm_calm h w n theirs (Some (Known theirs (held_by theirs) None)) (taken_calm theirs t) lost (not_lost_taken theirs)
  known_calm h w n Clash l t lost = as_it_is h w n lost
  known_calm h w n Keep l t lost = absurd l
  known_calm h w n Candidate l t lost = candidate_calm h w n l t
  known_calm h w n Settle l t lost = absurd l
  known_calm h w n Join l t lost = absurd l
  known_calm h w n Dispute l t lost = absurd l

abbrev LostAfter : Option Entry → Option Told → Bool → Type 0
LostAfter o s w = IfLost w (cond (is_candidate (verdict_by o s)) None (staged (verdict_by o s) o (theirs_by s)))

ends_calm : (o : Option Entry) (s : Option Told) (h w n : Bool) → HasFits o → edited_at o ≡ false → LostAfter o s w → edited_at (outcome o s h w n) ≡ false
ends_calm None None h w n fits quiet lost = firm_calm h w n (theirs_by None) None refl lost none_lost
ends_calm None (Some told.Mentioned) h w n fits quiet lost = firm_calm h w n base.New (Some Incomplete) refl lost incomplete_lost
ends_calm None (Some (told.Live version content meta)) h w n fits quiet lost = firm_calm h w n (base.Live version content meta) (Some (Known (base.Live version content meta) (Some content) None)) (taken_calm (base.Live version content meta) refl) lost (not_lost_taken (base.Live version content meta))
ends_calm None (Some (told.Gone version meta)) h w n fits quiet lost = firm_calm h w n (base.Gone version meta) (Some (Known (base.Gone version meta) None None)) refl lost (not_lost_taken (base.Gone version meta))
ends_calm (Some Incomplete) None h w n fits quiet lost = firm_calm h w n (theirs_by None) (Some Incomplete) refl lost incomplete_lost
ends_calm (Some Incomplete) (Some told.Mentioned) h w n fits quiet lost = firm_calm h w n base.New (Some Incomplete) refl lost incomplete_lost
ends_calm (Some Incomplete) (Some (told.Live version content meta)) h w n fits quiet lost = firm_calm h w n (base.Live version content meta) (Some (Known (base.Live version content meta) (Some content) None)) (taken_calm (base.Live version content meta) refl) lost (not_lost_taken (base.Live version content meta))
ends_calm (Some Incomplete) (Some (told.Gone version meta)) h w n fits quiet lost = firm_calm h w n (base.Gone version meta) (Some (Known (base.Gone version meta) None None)) refl lost (not_lost_taken (base.Gone version meta))
ends_calm (Some (Known b m f)) s h w n fits quiet lost =
    let l = leaves b m f s (calm b m f quiet) in
    known_calm b m f s fits quiet h w n (verdict_by (Some (Known b m f)) s) l.0 l.1 lost

fits_of : (t : TableValue) → IsSound t → (k : Key) (o : Option Entry) → entry_of t k ≡ o → HasFits o
fits_of t sound k None e = tt
fits_of t sound k (Some x) e = (sound.entries k x e).conflict

-- a lost object as its case leaves it
lost_so : (b : Bool) (o : Option Entry) → is_some (cond b None (lost_of o)) ≡ true → is_some (lost_of (cond b None o)) ≡ true
lost_so true o h = absurd (true≢false (sym h))
lost_so false o h = h

merged_calm : (t : TableValue) (m : ToldEntries) (k : Key) → IsSound t → edited_at (entry_of t k) ≡ false → edited_at (entry_of (merged t m) k) ≡ false
merged_calm t m k sound quiet =
    ap edited_at (merged_at t m k)
    ∙ ends_calm (entry_of t k) (fin.get m k) (has is_key (held (stage_of t m) (both_keys t m)) k) (has is_key (wanted (stage_of t m) (both_keys t m)) k) (named (stage_of t m) (both_keys t m) k)
    (fits_of t sound k (entry_of t k) refl) quiet (λ w. lost_so (is_candidate (verdict_by (entry_of t k) (fin.get m k))) (staged (verdict_by (entry_of t k) (fin.get m k)) (entry_of t k) (theirs_by (fin.get m k))) (wanted_lost (stage_of t m) (both_keys t m) k w))

was_edited : (o : Option Entry) → edited_at o ≡ true → WasEdited o
was_edited None h = absurd (true≢false (sym h))
was_edited (Some e) h = h

-- A download edits nothing.
pub merged_invents : (t : TableValue) (m : ToldEntries) → IsSound t → (k : Key) (e : Entry) → entry_of (merged t m) k ≡ Some e → is_edited e ≡ true → WasEdited (entry_of t k)
merged_invents t m sound k e is edits =
    by_bool (edited_at (entry_of t k)) (was_edited (entry_of t k)) (λ quiet. absurd (true≢false (sym edits ∙ sym (ap edited_at is) ∙ merged_calm t m k sound quiet)))

module _ (t : TableValue) (k : Key) (e : Entry) (edits : is_edited e ≡ true) where
  tested : (o : Option Refusal) (u : TableValue) (p : Option Refusal) → (entry_of u k ≡ Some e → WasEdited (entry_of t k)) → entry_of (answered t (o >> (p >> Ok (done u)))).table k ≡ Some e → WasEdited (entry_of t k)
  tested (Some r) u p h is = was_edited (entry_of t k) (ap edited_at is ∙ edits)
  tested None u (Some r) h is = was_edited (entry_of t k) (ap edited_at is ∙ edits)
  tested None u None h is = h is

own_side : (b : Base) (m : Option Content) (f : Option Conflict) → HasSide (Some (Known b m f)) b
own_side b m None = refl
own_side b m (Some x) = inl refl

-- what a job makes is new
made_new : (e : Entry) → is_edited e ≡ true → ((b : Base) → is_new b ≡ false → HasSide (Some e) b → ⊥) → base_of e ≡ Some base.New
made_new Incomplete edits sides = absurd (true≢false (sym edits))
made_new (Known base.New m f) edits sides = refl
made_new (Known (base.Live version content meta) m f) edits sides = absurd (sides (base.Live version content meta) refl (own_side (base.Live version content meta) m f))
made_new (Known (base.Gone version meta) m f) edits sides = absurd (sides (base.Gone version meta) refl (own_side (base.Gone version meta) m f))

module _ (j : Job) (t : TableValue) (limit : ℕ) (sound : IsSound t) (other : is_merge j ≡ false) (k : Key) (e : Entry) (is : entry_of (plain j t limit).table k ≡ Some e) (edits : is_edited e ≡ true) (free : lists j t k ≡ false) where
  by_entry : (o : Option Entry) → entry_of t k ≡ o → WasEdited o ⊎ IsMade o e
  by_entry (Some x) was =
      let stays : entry_of (plain j t limit).table k ≡ Some x = job_leaves t k x was sound j limit other free in
      let same : x ≡ e = (let both : Some x ≡ Some e = sym stays ∙ is in cc) in
      inl (ap is_edited same ∙ edits)
  by_entry None was =
      inr (
        refl,
        made_new e edits (λ b n side.
            let kept = (job_keeps j t limit other).sides k b n (subst (λ (o : Option Entry). HasSide o b) (sym is) side) in
            let none : HasSide None b = subst (λ (o : Option Entry). HasSide o b) was kept in none),
      )

-- No job does.
pub job_invents : (j : Job) (t : TableValue) (limit : ℕ) → IsSound t → JobInventsNone limit j t
job_invents (job.Merge told) t limit sound k e is edits free = inl (tested t k e edits (clash_test t told.told) (merged t told.told) (room_test limit (merged t told.told)) (λ at. merged_invents t told.told sound k e at edits) is)
job_invents j t limit sound k e is edits free = by_entry j t limit sound refl k e is edits free (entry_of t k) refl

-- what stays was edited
pub same_invents : (o : Option Entry) (e : Entry) → is_edited e ≡ true → o ≡ Some e → WasEdited o ⊎ IsMade o e
same_invents o e edits is = inl (was_edited o (ap edited_at is ∙ edits))

-- a reply
module _ (s : State) (k : Key) (e : Entry) (edits : is_edited e ≡ true) where
  abbrev Was : Type 0
  Was = WasEdited (entry_of s.now k) ⊎ IsMade (entry_of s.now k) e

  done_invents : (g : Group) (u : TableValue) → (entry_of u k ≡ Some e → Was) → entry_of (done_in g u s).now k ≡ Some e → Was
  done_invents Outside u new is = new is
  done_invents Running u new is = new is
  done_invents Refused u new is = same_invents (entry_of s.now k) e edits is

  ran_invents : (r : Reply) (u : TableValue) → gives_up r s.group ≡ false → (entry_of u k ≡ Some e → Was) → entry_of (ran r u s).now k ≡ Some e → Was
  ran_invents (reply.Done keys) u free new is = done_invents s.group u new is
  ran_invents (reply.Refused why) u free new is = by s.group free is
    where
      by : (g : Group) → gives_up (reply.Refused why) g ≡ false → entry_of (refused_in g s).now k ≡ Some e → Was
      by Outside free is = same_invents (entry_of s.now k) e edits is
      by Running free is = absurd (true≢false free)
      by Refused free is = same_invents (entry_of s.now k) e edits is

-- A step that runs a job makes no edits of which it doesn't say so.
pub job_step_invents : (limit : ℕ) (j : Job) (s : State) → IsSound s.now → InventsNone (job_says limit j s) s.now (job_move limit j s).state.now
job_step_invents limit j s sound k e is edits free =
    let p = or_parts (lists j s.now k) (gives_up (plain j s.now limit).reply s.group) free in
    ran_invents s k e edits (plain j s.now limit).reply (plain j s.now limit).table p.1 (λ at. job_invents j s.now limit sound k e at edits p.0) is
