-- What a step of a script says that it changes or forgets, and that each edit of which it doesn't say so is kept.
--
-- For example `undo 1` says it of all objects, `purge n1` of n1 alone, and `download` of none, unless the group that is open is
-- given up with it. A `confirm` says it of none: where its answers are taken, each edited object is there under the id that it got.
use Rattle.std.specs.Prelude.{ℕ, Bool, true, false, List, [], if◌then◌else◌, Option, None, Some, Result, Ok, Err}
use Rattle.std.specs.List.{All}
use Rattle.osm_base.specs.declared.key.Key.{Key}
use Rattle.dataset.specs.Patch.{PatchValue}
use Rattle.sample_city.specs.City.{city}
use Rattle.osm_table.specs.declared.told.Told.{Told}
use Rattle.tool_api.specs.declared.job.Job.TheVariants.{Merge}
use Rattle.placeholder.specs.declared.answer.Answer.{Answer}
use Rattle.answer_file.specs.Answers.{answers_of}
use Rattle.edit_script.specs.declared.reply.StepRefusal.{StepRefusal}
use Rattle.edit_script.specs.declared.step.Act.{Act}
use Rattle.edit_script.specs.declared.step.Act.TheVariants.{Job, Generate, History, File}
use Rattle.edit_script.specs.declared.step.HistoryStep.TheVariants.{Undo, Redo}
use Rattle.edit_script.specs.declared.step.Purpose.TheVariants.{Download, Import, Confirm, Resume}
use Rattle.edit_script.specs.declared.step.Step.{Step}
use Rattle.edit_script.specs.Place.{is_meeting}
use Rattle.edit_history.specs.declared.counts.Group.{Group}
use Rattle.edit_history.specs.declared.counts.Group.TheVariants.{Running}
use Rattle.edit_history.specs.Machine.{State, first_state}
use Rattle.editor_laws.specs.Answered.{KeepsAllBut}
use Rattle.editor_laws.specs.Steps.{job_says, tells}
use Rattle.edit_steps.specs.declared.limits.Limits.{Limits}
use Rattle.edit_steps.specs.declared.loading.Found.{Found}
use Rattle.edit_steps.specs.declared.loading.Found.TheVariants as found
use Rattle.edit_steps.specs.Given.{Given}
use Rattle.edit_steps.specs.Load.{found_in}
use Rattle.edit_steps.specs.States.{states_before}
use Rattle.edit_steps.specs.Settled.{confirmed}
use Rattle.edit_steps.specs.Turn.{step_turn}

-- a group that is open takes jobs, and is given up where one is refused
abbrev pub is_running : Group → Bool
is_running Running = true
is_running group = false

-- of the job that the objects of a file make; where there is none, the group is given up
abbrev pub file_says : ℕ → Found → State → Key → Bool
file_says limit (found.Job job) s k = job_says limit job s k
file_says limit other s k = is_running s.group

-- of what answers confirm; where the file isn't there, the group is given up
abbrev pub confirm_says : Found → State → Key → Bool
confirm_says (found.Bytes bytes) s k = false
confirm_says other s k = is_running s.group

-- Whether a step says that it changes or forgets the object.
abbrev pub act_says : Limits → Found → Act → State → Key → Bool
act_says limits found (Job job) s k = job_says limits.objects job s k
act_says limits found (Generate streets) s k = job_says limits.objects (Merge (city streets)) s k
act_says limits found (History (Undo n)) s k = true
act_says limits found (History (Redo n)) s k = true
act_says limits found (File name (Download area wanted)) s k = file_says limits.objects found s k
act_says limits found (File name Import) s k = file_says limits.objects found s k
act_says limits found (File name Confirm) s k = confirm_says found s k
act_says limits found (File name Resume) s k = true
act_says limits found other s k = false

-- What a step tells of an object of the server, where it merges a download.
abbrev pub file_tells : Found → Key → Option Told
file_tells (found.Job job) k = tells job k
file_tells other k = None

abbrev pub act_tells : Found → Act → Key → Option Told
act_tells found (Job job) k = tells job k
act_tells found (Generate streets) k = tells (Merge (city streets)) k
act_tells found (File name (Download area wanted)) k = file_tells found k
act_tells found (File name Import) k = file_tells found k
act_tells found other k = None

-- the answers of a file, where they are taken
abbrev pub answers_if : Result PatchValue StepRefusal → List Answer → Option (List Answer)
answers_if (Ok patch) answers = Some answers
answers_if (Err why) answers = None

abbrev pub file_answers : Found → State → Option (List Answer)
file_answers (found.Bytes bytes) s = answers_if (confirmed s.now bytes) (answers_of bytes).answers
file_answers other s = None

-- The answers that a step takes.
abbrev pub answers_taken : Act → Found → State → Option (List Answer)
answers_taken (File name Confirm) found s = file_answers found s
answers_taken other found s = None

-- Each edited object of which the step doesn't say so is kept, under the id that it got where answers are taken.
abbrev pub IsKept : Limits → Given → Step → State → Type 0
IsKept limits given step s =
    let found = found_in limits given s.group step.act in
    KeepsAllBut (answers_taken step.act found s) (act_says limits found step.act s) (act_tells found step.act) s.now (step_turn limits given step s).state.now

-- So does each step of a run.
abbrev pub AreKept : Limits → List (Step × Given × State) → Type 0
AreKept limits steps = All (λ (at : Step × Given × State). IsKept limits at.1 at.0 at.2) steps

-- the steps of a script for one editor, each with the state before it; none where it is a meeting script
abbrev pub alone : Limits → List Given → List Step → List (Step × Given × State)
alone limits given steps = if is_meeting steps then [] else states_before limits given steps first_state
