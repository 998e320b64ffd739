-- The steps of an editor keep what was edited.
use Rattle.std.proofs.Common.{◌≡◌, ℕ, true, false, List, [], ◌∷◌, Option, Some, None, refl}
use Rattle.std.proofs.lemmas.Bool.{true≢false, or_parts}
use Rattle.osm_base.specs.declared.key.Key.{Key}
use Rattle.osm_table.specs.declared.entry.Entry.{Entry}
use Rattle.osm_table.specs.declared.told.Told.{Told}
use Rattle.osm_table.specs.Table.{TableValue, entry_of}
use Rattle.dataset.specs.Sound.{IsSound}
use Rattle.tool_api.specs.declared.job.Job.{Job}
use Rattle.tool_api.specs.declared.job.Job.TheVariants as job
use Rattle.tool_api.specs.declared.reply.Reply.{Reply}
use Rattle.tool_api.specs.declared.reply.Reply.TheVariants as reply
use Rattle.tool_api.specs.Plain.{plain}
use Rattle.edit_history.specs.declared.counts.Group.{Group}
use Rattle.edit_history.specs.declared.counts.Group.TheVariants.{Outside, Running, Refused}
use Rattle.edit_history.specs.declared.edit_step.EditStep.{EditStep}
use Rattle.edit_history.specs.declared.edit_step.EditStep.TheVariants.{Run, Begin, End}
use Rattle.edit_history.specs.Machine.{State, done_in, refused_in, ran}
use Rattle.edit_history.specs.Steps.{edited, job_move}
use Rattle.editor_laws.specs.Editing.{is_merge}
use Rattle.editor_laws.specs.Kept.{is_edited, Keeps}
use Rattle.editor_laws.specs.Listed.{lists}
use Rattle.editor_laws.specs.Steps.{gives_up, job_says, tells, KeepsEdits, EachStep, IsFromSound}
use Rattle.editor_laws.proofs.KeptJobs.{job_leaves}
use Rattle.editor_laws.proofs.KeptMerges.{same_kept, merge_keeps}

-- a job
module _ (t : TableValue) (limit : ℕ) (k : Key) (e : Entry) (is : entry_of t k ≡ Some e) (sound : IsSound t) (edits : is_edited e ≡ true) where
  abbrev IsKept : Job → Type 0
  IsKept j = Keeps (tells j k) e (entry_of (plain j t limit).table k)

  other : (j : Job) → is_merge j ≡ false → lists j t k ≡ false → IsKept j
  other j n free = same_kept (tells j k) e (entry_of (plain j t limit).table k) edits (job_leaves t k e is sound j limit n free)

  pub job_keeps : (j : Job) → lists j t k ≡ false → IsKept j
  job_keeps (job.Merge told) free = merge_keeps t k e is told limit edits
  job_keeps j free = other j refl free

-- a reply
module _ (k : Key) (told : Option Told) (e : Entry) where
  done_keeps : (g : Group) (u : TableValue) (s : State) → Keeps told e (entry_of u k) → Keeps told e (entry_of s.now k) → Keeps told e (entry_of (done_in g u s).now k)
  done_keeps Outside u s new old = new
  done_keeps Running u s new old = new
  done_keeps Refused u s new old = old

  ran_keeps : (r : Reply) (u : TableValue) (s : State) → gives_up r s.group ≡ false → Keeps told e (entry_of u k) → Keeps told e (entry_of s.now k) → Keeps told e (entry_of (ran r u s).now k)
  ran_keeps (reply.Done keys) u s calm new old = done_keeps s.group u s new old
  ran_keeps (reply.Refused why) u s calm new old = by s.group calm
    where
      by : (g : Group) → gives_up (reply.Refused why) g ≡ false → Keeps told e (entry_of (refused_in g s).now k)
      by Outside calm = old
      by Running calm = absurd (true≢false calm)
      by Refused calm = old

-- A job keeps what was edited, where it doesn't say that it changes or forgets it.
pub job_step_keeps : (limit : ℕ) (j : Job) (s : State) → IsSound s.now → (k : Key) (e : Entry) → entry_of s.now k ≡ Some e → is_edited e ≡ true → job_says limit j s k ≡ false → Keeps (tells j k) e (entry_of (job_move limit j s).state.now k)
job_step_keeps limit j s sound k e is edits free =
    let p = or_parts (lists j s.now k) (gives_up (plain j s.now limit).reply s.group) free in
    ran_keeps k (tells j k) e (plain j s.now limit).reply (plain j s.now limit).table s p.1 (job_keeps s.now limit k e is sound edits j p.0) (same_kept (tells j k) e (entry_of s.now k) edits is)

-- So does each step.
pub step_keeps : (limit : ℕ) (step : EditStep) (s : State) → IsSound s.now → KeepsEdits limit step s
step_keeps limit (Run job) s sound k e is edits free = job_step_keeps limit job.now s sound k e is edits free
step_keeps limit Begin s sound k e is edits free = same_kept None e (entry_of s.now k) edits is
step_keeps limit End s sound k e is edits free = same_kept None e (entry_of s.now k) edits is
step_keeps limit step s sound k e is edits free = absurd (true≢false free)

pub steps_keep : (limit : ℕ) (steps : List EditStep) (s : State) → EachStep IsFromSound limit steps s → EachStep (KeepsEdits limit) limit steps s
steps_keep limit [] s h = tt
steps_keep limit (step ∷ steps) s h = (step_keeps limit step s h.0, steps_keep limit steps (edited limit step s).state h.1)
