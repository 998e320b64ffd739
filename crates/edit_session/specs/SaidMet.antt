-- What a step of a meeting keeps of what its editors have edited.
--
-- For example the first editor moved n1. A `fetch` of it says of no object that it changes it, so n1 is kept there, perhaps in a
-- conflict. The other editors' tables stay as they are, and when the answer to a `send` comes, n1 is there as it was sent.
use Rattle.std.specs.Prelude.{◌≡◌, ◌≢◌, ℕ, Bool, false, is_some, if◌then◌else◌, List, get_or, slice_get, Option, None, Some}
use Rattle.std.specs.List.{All}
use Rattle.osm_base.specs.Tags.{Pair}
use Rattle.osm_base.specs.declared.area.Area.{Area}
use Rattle.osm_base.specs.declared.key.Key.{Key}
use Rattle.osm_table.specs.declared.told.Told.{Told}
use Rattle.osm_table.specs.Table.{TableValue}
use Rattle.tool_api.specs.declared.job.Job.TheVariants.{Merge}
use Rattle.placeholder.specs.declared.answer.Answer.{Answer}
use Rattle.server_world.specs.Codes.{Objects}
use Rattle.edit_script.specs.declared.step.Act.{Act}
use Rattle.edit_script.specs.declared.step.Act.TheVariants.{Meet}
use Rattle.edit_script.specs.declared.step.MeetStep.TheVariants as meet
use Rattle.edit_script.specs.declared.step.Step.{Step}
use Rattle.edit_history.specs.Machine.{State}
use Rattle.editor_laws.specs.Answered.{KeepsAllBut}
use Rattle.editor_laws.specs.Invented.{InventsNone}
use Rattle.editor_laws.specs.Steps.{job_says, tells}
use Rattle.many_editors.specs.Meeting.{Meeting, first_editor, states}
use Rattle.many_editors.specs.Serving.{told_of_state}
use Rattle.edit_steps.specs.declared.limits.Limits.{Limits}
use Rattle.edit_steps.specs.declared.loading.Found.{Found}
use Rattle.edit_steps.specs.Given.{Given}
use Rattle.edit_session.specs.Meet.{Seat, found_by, meet_step, own}
use Rattle.edit_session.specs.Said.{act_says, act_tells, is_running}

-- the table of the editor with this number
abbrev pub table_at : ℕ → Meeting → TableValue
table_at n m = (get_or m.editors n first_editor).state.now

-- whether a fetch of a state of the server says of an object that it changes or forgets it; where there is no such state, a group
-- is given up
abbrev pub fetch_says : ℕ → Option Area → Option (List Pair) → Option Objects → State → Key → Bool
fetch_says limit area wanted (Some objects) s k = job_says limit (Merge (told_of_state objects area wanted)) s k
fetch_says limit area wanted None s k = is_running s.group

-- whether a step says so of an object in the table of the editor that makes it
abbrev pub work_says : Limits → Found → Act → Seat → Key → Bool
work_says limits found (Meet (meet.Fetch back area wanted)) seat k = fetch_says limits.objects area wanted (slice_get (states seat.meeting) back) (own seat).state k
work_says limits found act seat k = act_says limits found act (own seat).state k

-- one of an editor that waits says it of none
abbrev pub seat_says : Limits → Found → Act → Seat → Key → Bool
seat_says limits found act seat k = if is_some (own seat).waits then false else work_says limits found act seat k

-- what a fetch of a state of the server tells of an object, and what a step does
abbrev pub fetch_tells : Option Area → Option (List Pair) → Option Objects → Key → Option Told
fetch_tells area wanted (Some objects) k = tells (Merge (told_of_state objects area wanted)) k
fetch_tells area wanted None k = None

abbrev pub work_tells : Found → Act → Seat → Key → Option Told
work_tells found (Meet (meet.Fetch back area wanted)) seat k = fetch_tells area wanted (slice_get (states seat.meeting) back) k
work_tells found act seat k = act_tells found act k

-- one of an editor that waits tells nothing
abbrev pub seat_tells : Found → Act → Seat → Key → Option Told
seat_tells found act seat k = if is_some (own seat).waits then None else work_tells found act seat k

-- the answers for which the editor waits, where they come
abbrev pub answers_come : Act → Seat → Option (List Answer)
answers_come (Meet meet.Answer) seat = (own seat).waits
answers_come act seat = None

-- Each edited object of the editor's table of which the step doesn't say so is kept, under the id that it got where answers come.
-- Where none come, nothing else is edited after it than before, but what is new. Every other editor stays as it is.
pub record IsKeptMet (limits : Limits) (given : Given) (step : Step) (seat : Seat) : Type 0 where
  pub asked : answers_come step.act seat ≡ None → InventsNone (seat_says limits (found_by limits given (own seat) step.act) step.act seat) (table_at seat.editor seat.meeting) (table_at seat.editor (meet_step limits given step seat).seat.meeting)
  pub own : KeepsAllBut (answers_come step.act seat) (seat_says limits (found_by limits given (own seat) step.act) step.act seat) (seat_tells (found_by limits given (own seat) step.act) step.act seat) (table_at seat.editor seat.meeting) (table_at seat.editor (meet_step limits given step seat).seat.meeting)
  pub others : (n : ℕ) → n ≢ seat.editor → slice_get (meet_step limits given step seat).seat.meeting.editors n ≡ slice_get seat.meeting.editors n

-- So does each step of a meeting.
abbrev pub AreKeptMet : Limits → List (Step × Given × Seat) → Type 0
AreKeptMet limits steps = All (λ (at : Step × Given × Seat). IsKeptMet limits at.1 at.0 at.2) steps
