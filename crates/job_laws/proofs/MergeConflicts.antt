-- Which objects are in conflict after a merge.
use Rattle.std.proofs.Common.{◌≡◌, ◌||◌, ◌&&◌, not, ℕ, Bool, true, false, Option, Some, None, is_some, cond, refl, sym, ◌∙◌, ap}
use Rattle.std.specs.Option.{option_map}
use Rattle.std.proofs.lemmas.Bool.{true≢false}
use Rattle.osm_base.specs.Rank.{is_key}
use Rattle.osm_base.specs.declared.key.Key.{Key}
use Rattle.osm_base.specs.declared.content.Content.{Content}
use Rattle.osm_table.specs.declared.entry.Base.{Base}
use Rattle.osm_table.specs.declared.entry.Why.{Why}
use Rattle.osm_table.specs.declared.entry.Why.TheVariants.{Changed, Held, Withdrawn}
use Rattle.osm_table.specs.declared.entry.Conflict.{Conflict}
use Rattle.osm_table.specs.declared.entry.Entry.{Entry}
use Rattle.osm_table.specs.declared.entry.Entry.TheVariants.{Incomplete, Known}
use Rattle.osm_table.specs.Table.{TableValue, entry_of, held_by}
use Rattle.osm_table.specs.Told.{ToldEntries, IsToldMap}
use Rattle.dataset.specs.Exact.{mine_at}
use Rattle.dataset.specs.Sound.{IsSound, ConflictFits, WhyFits, IsLive}
use Rattle.closure.specs.Closure.{has}
use Rattle.tool_api.specs.Closing.{in_conflict}
use Rattle.tool_api.specs.Staged.{stage_of, lost_of, back, against, bared}
use Rattle.tool_api.specs.Merged.{both_keys, lost_content, wanted, held, named, merged}
use Rattle.job_laws.proofs.MergeRows.{HasFits, live_held}
use Rattle.job_laws.proofs.MergeStand.{settled, wanted_lost}
use Rattle.job_laws.proofs.MergeFitting.{fits}
use Rattle.job_laws.proofs.MergeOutcome.{merged_at}
use Rattle.job_laws.proofs.MergePlaces.{SoundAt}
use Rattle.job_laws.proofs.MergeSounds.{stage_sound}

pub held_conflict : (b : Base) (o : Option Entry) → is_some (mine_at o) ≡ true → in_conflict (option_map (against Held b) o) ≡ true
held_conflict b None h = h
held_conflict b (Some Incomplete) h = h
held_conflict b (Some (Known a m f)) h = refl

pub back_conflict : (o : Option Entry) → is_some (lost_of o) ≡ true → in_conflict (option_map back o) ≡ true
back_conflict None h = h
back_conflict (Some Incomplete) h = h
back_conflict (Some (Known b m f)) h = refl

-- an object that is gone on both sides isn't in conflict
not_live : (b : Base) → IsLive b → None ≡ held_by b → ⊥
not_live b l e = true≢false (sym (live_held b l) ∙ sym (ap is_some e))

some_held : (o : Option Content) → (None ≡ o → ⊥) → is_some o ≡ true
some_held None h = absurd (h refl)
some_held (Some c) h = refl

why_lost : (w : Why) (theirs b : Base) → WhyFits w theirs b None → is_some (held_by theirs) ≡ true
why_lost Changed theirs b h = some_held (held_by theirs) h.2
why_lost Held theirs b h = absurd (not_live b h.0 h.1)
why_lost Withdrawn theirs b h = absurd (not_live b h.0 h.1)

dead_conflict : (named : Bool) (b : Base) (f : Option Conflict) → ConflictFits b None f → in_conflict (bared named (Some (Known b None f))) ≡ is_some f
dead_conflict named b None h = by (named && not (is_some (held_by b)))
  where
    by : (a : Bool) → in_conflict (cond a (Some Incomplete) (Some (Known b None None))) ≡ false
    by true = refl
    by false = refl
dead_conflict true b (Some c) h = ap (λ (a : Bool). in_conflict (cond (not a) (Some Incomplete) (Some (Known b None (Some c))))) (why_lost c.why c.theirs b h)
dead_conflict false b (Some c) h = refl

pub bared_conflict : (named : Bool) (o : Option Entry) → HasFits o → in_conflict (bared named o) ≡ in_conflict o
bared_conflict true None h = refl
bared_conflict false None h = refl
bared_conflict named (Some Incomplete) h = refl
bared_conflict named (Some (Known b None f)) h = dead_conflict named b f h
bared_conflict named (Some (Known b (Some c) f)) h = refl

pub sound_fits : (n : ℕ) (k : Key) (o : Option Entry) → SoundAt n k o → HasFits o
sound_fits n k None s = tt
sound_fits n k (Some e) s = s.conflict

module _ (t : TableValue) (m : ToldEntries) (sound : IsSound t) (is_told : IsToldMap m) where
  -- held candidates, wanted objects, and those that are in conflict by their case
  pub conflicts : (k : Key) → in_conflict (entry_of (merged t m) k)
      ≡ cond (stage_of t m k).candidate (has is_key (held (stage_of t m) (both_keys t m)) k) (has is_key (wanted (stage_of t m) (both_keys t m)) k || in_conflict (stage_of t m k).entry)
  conflicts k = ap in_conflict (merged_at t m k) ∙ by (stage_of t m k).candidate (has is_key (held (stage_of t m) (both_keys t m)) k) (has is_key (wanted (stage_of t m) (both_keys t m)) k) refl refl
    where
      by : (a h w : Bool) → (stage_of t m k).candidate ≡ a → has is_key (wanted (stage_of t m) (both_keys t m)) k ≡ w
          → in_conflict (settled a h w (named (stage_of t m) (both_keys t m) k) (stage_of t m k).theirs (stage_of t m k).entry) ≡ cond a h (w || in_conflict (stage_of t m k).entry)
      by true true w e f = held_conflict (stage_of t m k).theirs (stage_of t m k).entry ((fits t m sound).alive k e)
      by true false w e f = refl
      by false h true e f = back_conflict (stage_of t m k).entry
          (let opened : lost_content (stage_of t m) (both_keys t m) k ≡ lost_of (stage_of t m k).entry = ap (λ (b : Bool). cond b None (lost_of (stage_of t m k).entry)) e in
          sym (ap is_some opened) ∙ wanted_lost (stage_of t m) (both_keys t m) k f)
      by false h false e f = bared_conflict (named (stage_of t m) (both_keys t m) k) (stage_of t m k).entry (sound_fits t.next k (stage_of t m k).entry (stage_sound t m sound is_told k))
