-- What a job tells newer is heard, where it is done.
use Rattle.std.proofs.Common.{◌≡◌, Ok, ℕ, List, Option, Some, None, refl}
use Rattle.osm_base.specs.declared.key.Key.{Key}
use Rattle.osm_table.specs.Table.{TableValue}
use Rattle.tool_api.specs.declared.job.Job.{Job}
use Rattle.tool_api.specs.declared.job.Job.TheVariants as job
use Rattle.tool_api.specs.declared.refusal.Refusal.{Refusal}
use Rattle.tool_api.specs.declared.reply.Reply.{Reply}
use Rattle.tool_api.specs.declared.reply.Reply.TheVariants as reply
use Rattle.tool_api.specs.Checks.{◌>>◌}
use Rattle.tool_api.specs.Changes.{done}
use Rattle.tool_api.specs.Closing.{room_test}
use Rattle.tool_api.specs.Merged.{merged, clash_test}
use Rattle.tool_api.specs.Plain.{answered, plain}
use Rattle.edit_history.specs.declared.counts.Group.{Group}
use Rattle.edit_history.specs.declared.counts.Group.TheVariants.{Outside, Running, Refused}
use Rattle.edit_history.specs.declared.edit_step.EditAnswer.TheVariants as edit
use Rattle.edit_history.specs.Machine.{State, done_in, ran}
use Rattle.edit_history.specs.Steps.{job_move, replied}
use Rattle.editor_laws.specs.Heard.{HearsAll}
use Rattle.editor_laws.specs.Steps.{tells, JobHears}
use Rattle.editor_laws.specs.Texts.{BringsTexts, IsTextTable}
use Rattle.editor_laws.proofs.HeardMerges.{merge_hears}

-- a job that was done has passed its tests
tested : (P : TableValue → Type 0) (t : TableValue) (o : Option Refusal) (u : TableValue) (p : Option Refusal) (made : List Key) → (answered t (o >> (p >> Ok (done u)))).reply ≡ reply.Done made → P u → P (answered t (o >> (p >> Ok (done u)))).table
tested P t (Some r) u p made is h = let never : reply.Refused r ≡ reply.Done made = is in absurd cc
tested P t None u (Some r) made is h = let never : reply.Refused r ≡ reply.Done made = is in absurd cc
tested P t None u None made is h = h

pub job_hears : (j : Job) (t : TableValue) (limit : ℕ) → IsTextTable t → BringsTexts j → JobHears limit j t
job_hears (job.Merge told) t limit texts brings = λ made is.
    tested (HearsAll (tells (job.Merge told)) t) t (clash_test t told.told) (merged t told.told) (room_test limit (merged t told.told)) made is (merge_hears t told texts brings)
job_hears j t limit texts brings = λ made is k theirs side news. absurd side

-- So it is after a step that runs the job, in a group that isn't given up.
module _ (P : TableValue → Type 0) where
  done_at : (g : Group) (u : TableValue) (s : State) → (g ≡ Refused → ⊥) → P u → P (done_in g u s).now
  done_at Outside u s free h = h
  done_at Running u s free h = h
  done_at Refused u s free h = absurd (free refl)

  ran_at : (r : Reply) (u : TableValue) (s : State) (made : List Key) → (s.group ≡ Refused → ⊥) → replied r ≡ edit.Done made → ((keys : List Key) → r ≡ reply.Done keys → P u) → P (ran r u s).now
  ran_at (reply.Done keys) u s made free is h = done_at s.group u s free (h keys refl)
  ran_at (reply.Refused why) u s made free is h = absurd cc

pub job_step_hears : (limit : ℕ) (j : Job) (s : State) → (s.group ≡ Refused → ⊥) → IsTextTable s.now → BringsTexts j → (made : List Key) → (job_move limit j s).answer ≡ edit.Done made → HearsAll (tells j) s.now (job_move limit j s).state.now
job_step_hears limit j s free texts brings made is =
    ran_at (HearsAll (tells j) s.now) (plain j s.now limit).reply (plain j s.now limit).table s made free is (λ keys done. job_hears j s.now limit texts brings keys done)
