-- What the steps of an editor keep of what was edited.
--
-- For example `undo 1` says that it changes all, since a whole earlier table is the table now; so does a job that is refused in a
-- group. Each other job keeps what it doesn't list.
use Rattle.std.specs.Prelude.{◌≡◌, ℕ, ◌||◌, Bool, true, false, List, [], ◌∷◌, Option, Some, None}
use Rattle.std.specs.FinMap as fin
use Rattle.osm_base.specs.declared.key.Key.{Key}
use Rattle.osm_table.specs.declared.entry.Entry.{Entry}
use Rattle.osm_table.specs.declared.told.Told.{Told}
use Rattle.osm_table.specs.Table.{TableValue, entry_of}
use Rattle.dataset.specs.Sound.{IsSound}
use Rattle.tool_api.specs.declared.job.Job.{Job}
use Rattle.tool_api.specs.declared.job.Job.TheVariants as job
use Rattle.tool_api.specs.declared.reply.Reply.{Reply}
use Rattle.tool_api.specs.declared.reply.Reply.TheVariants as reply
use Rattle.tool_api.specs.Plain.{plain}
use Rattle.edit_history.specs.declared.counts.Group.{Group}
use Rattle.edit_history.specs.declared.counts.Group.TheVariants.{Running}
use Rattle.edit_history.specs.declared.edit_step.EditStep.{EditStep}
use Rattle.edit_history.specs.declared.edit_step.EditStep.TheVariants.{Run, Begin, End}
use Rattle.edit_history.specs.Machine.{State}
use Rattle.edit_history.specs.Steps.{edited}
use Rattle.editor_laws.specs.Heard.{HearsAll}
use Rattle.editor_laws.specs.Kept.{is_edited, Keeps}
use Rattle.editor_laws.specs.Listed.{lists}

-- whether a group is given up with a job's reply
abbrev pub gives_up : Reply → Group → Bool
gives_up (reply.Refused why) Running = true
gives_up r group = false

-- whether a job says that it changes or forgets the object
abbrev pub job_says : ℕ → Job → State → Key → Bool
job_says limit j s k = lists j s.now k || gives_up (plain j s.now limit).reply s.group

-- Whether a step says so. One that gives a group up, or goes back or on, says it of all, and so does one that settles: what the
-- answers of a server keep has a law of its own.
abbrev pub says : ℕ → EditStep → State → Key → Bool
says limit (Run job) s k = job_says limit job.now s k
says limit Begin s k = false
says limit End s k = false
says limit step s k = true

-- what a job tells of an object of the server: a merge what its download does
abbrev pub tells : Job → Key → Option Told
tells (job.Merge told) k = fin.get told.told k
tells j k = None

-- and what a step does
abbrev pub step_tells : EditStep → Key → Option Told
step_tells (Run job) k = tells job.now k
step_tells step k = None

-- Each edited object is kept, if the step doesn't say that it changes or forgets it.
abbrev pub KeepsEdits : ℕ → EditStep → State → Type 0
KeepsEdits limit step s =
    (k : Key) (e : Entry) → entry_of s.now k ≡ Some e → is_edited e ≡ true → says limit step s k ≡ false → Keeps (step_tells step k) e (entry_of (edited limit step s).state.now k)

-- each step of a run meets a condition, with the state before it
abbrev pub EachStep : (EditStep → State → Type 0) → ℕ → List EditStep → State → Type 0
EachStep P limit [] s = Unit {0}
EachStep P limit (step ∷ steps) s = P step s × EachStep P limit steps (edited limit step s).state

-- the step begins with a sound table
abbrev pub IsFromSound : EditStep → State → Type 0
IsFromSound step s = IsSound s.now

-- All news that a job tells is heard, where it is done.
abbrev pub JobHears : ℕ → Job → TableValue → Type 0
JobHears limit j t = (made : List Key) → (plain j t limit).reply ≡ reply.Done made → HearsAll (tells j) t (plain j t limit).table
