-- What each step of a script does to the state of the machine of whole tables, and what it writes.
--
-- For example in a state without a group `tag n9 Ta=1` over a table without n9 replies `refused 1 n9`, and the state
-- stays. In a running group the table is then again the one at `begin`, and what follows up to `end` is skipped.
use Rattle.std.specs.Prelude.{ℕ, if◌then◌else◌, List, [], ◌++◌, Result, Ok, Err}
use Rattle.osm_table.specs.Table.{TableValue}
use Rattle.dataset.specs.Patch.{PatchValue, after_of}
use Rattle.sample_city.specs.City.{city}
use Rattle.tool_api.specs.declared.job.Job as jobs
use Rattle.tool_api.specs.declared.job.Job.TheVariants.{Merge}
use Rattle.edit_script.specs.declared.step.Act.{Act}
use Rattle.edit_script.specs.declared.step.Act.TheVariants.{Job, Generate, History, Look, File}
use Rattle.edit_script.specs.declared.step.HistoryStep.{HistoryStep}
use Rattle.edit_script.specs.declared.step.HistoryStep.TheVariants.{Begin, End, Undo, Redo}
use Rattle.edit_script.specs.declared.step.Purpose.{Purpose}
use Rattle.edit_script.specs.declared.step.Purpose.TheVariants.{Confirm, Resume}
use Rattle.edit_script.specs.declared.step.Step.{Step}
use Rattle.edit_script.specs.declared.reply.StepReply.{StepReply}
use Rattle.edit_script.specs.declared.reply.StepReply.TheVariants.{Done, Refused, Skipped}
use Rattle.edit_script.specs.declared.reply.StepRefusal.{StepRefusal}
use Rattle.edit_script.specs.declared.reply.StepRefusal.TheVariants.{Tool, NoFile, BadFile, NothingToUndo, NothingToRedo}
use Rattle.edit_script.specs.Reply.{reply_line}
use Rattle.edit_history.specs.declared.edit_step.EditAnswer.{EditAnswer}
use Rattle.edit_history.specs.declared.edit_step.EditAnswer.TheVariants as edit
use Rattle.edit_history.specs.declared.edit_step.EditRefusal.{EditRefusal}
use Rattle.edit_history.specs.declared.edit_step.EditRefusal.TheVariants as own
use Rattle.edit_history.specs.declared.sides.Direction.TheVariants.{Back, On}
use Rattle.edit_history.specs.Machine.{State, refused_in, began, ended, settled}
use Rattle.edit_history.specs.Moved.{Move}
use Rattle.edit_history.specs.Steps.{job_move, steps_move}
use Rattle.edit_steps.specs.declared.limits.Limits.{Limits}
use Rattle.edit_steps.specs.declared.loading.Found.{Found}
use Rattle.edit_steps.specs.declared.loading.Found.TheVariants as found
use Rattle.edit_steps.specs.declared.looks.Behind.TheVariants as behind
use Rattle.edit_steps.specs.declared.response.Response.{Response}
use Rattle.edit_steps.specs.Given.{Given}
use Rattle.edit_steps.specs.Groups.{is_given_up}
use Rattle.edit_steps.specs.Load.{found_in}
use Rattle.edit_steps.specs.Looks.{look_answer, behind_text}
use Rattle.edit_steps.specs.Settled.{confirmed, resumed}

-- What a step answers, and the state after it.
abbrev pub Turn : Type 0
Turn = Move Response

-- a reply with nothing behind it
abbrev pub reply_alone : StepReply → Response
reply_alone reply = record { reply = reply; behind = behind.Nothing }

-- done, and nothing was made
abbrev pub done_turn : State → Turn
done_turn s = record { answer = reply_alone (Done []); state = s }

-- the state stays
abbrev pub still_turn : Response → State → Turn
still_turn answer s = record { answer = answer; state = s }

-- why a step on the table is refused, as the refusal of a step of a script
abbrev pub edit_refused : EditRefusal → StepRefusal
edit_refused (own.Tool why) = Tool why
edit_refused own.NothingToUndo = NothingToUndo
edit_refused own.NothingToRedo = NothingToRedo

-- what a step on the table answers
abbrev pub moved_answer : EditAnswer → Response
moved_answer (edit.Done made) = reply_alone (Done made)
moved_answer (edit.Refused why) = reply_alone (Refused (edit_refused why))

-- a move of the machine
abbrev pub moved_turn : Move EditAnswer → Turn
moved_turn m = record { answer = moved_answer m.answer; state = m.state }

-- a job is run
abbrev pub job_turn : ℕ → jobs.Job → State → Turn
job_turn limit job s = moved_turn (job_move limit job s)

-- refused before there was a job; a running group is given up all the same
abbrev pub refused_turn : StepRefusal → State → Turn
refused_turn why s = record { answer = reply_alone (Refused why); state = refused_in s.group s }

-- a city with so many streets is taken in
abbrev pub city_turn : ℕ → ℕ → State → Turn
city_turn limit streets s = job_turn limit (Merge (city streets)) s

-- why there is nothing to take in
abbrev pub missing : Found → StepRefusal
missing (found.Bad fault) = BadFile fault
missing other = NoFile

-- the job that the objects of a file make is run, where the file is there and can be read
abbrev pub file_turn : ℕ → Found → State → Turn
file_turn limit (found.Job job) s = job_turn limit job s
file_turn limit other s = refused_turn (missing other) s

-- the table to which a difference leads is the table now for good, where there is one
abbrev pub settled_turn : Result PatchValue StepRefusal → State → Turn
settled_turn (Ok patch) s = done_turn (settled (after_of patch s.now) s)
settled_turn (Err why) s = still_turn (reply_alone (Refused why)) s

-- the answers in a file are taken, where the file is there and not too long
abbrev pub confirm_turn : Found → State → Turn
confirm_turn (found.Bytes bytes) s = settled_turn (confirmed s.now bytes) s
confirm_turn other s = refused_turn (missing other) s

-- the session that a file holds is taken up, where the file is there and not too long
abbrev pub resume_turn : ℕ → Found → State → Turn
resume_turn limit (found.Bytes bytes) s = settled_turn (resumed limit s.now bytes) s
resume_turn limit other s = refused_turn (missing other) s

-- what is taken of a file, by what it is read for
abbrev pub purpose_turn : Limits → Found → Purpose → State → Turn
purpose_turn limits found Confirm s = confirm_turn found s
purpose_turn limits found Resume s = resume_turn limits.objects found s
purpose_turn limits found purpose s = file_turn limits.objects found s

-- a group begins or ends, or steps are undone or done again
abbrev pub history_turn : HistoryStep → State → Turn
history_turn Begin s = done_turn (began s)
history_turn End s = done_turn (ended s)
history_turn (Undo n) s = moved_turn (steps_move Back n s)
history_turn (Redo n) s = moved_turn (steps_move On n s)

-- an act, where no group was given up
abbrev pub act_turn : Limits → Found → Act → State → Turn
act_turn limits found (Job job) s = job_turn limits.objects job s
act_turn limits found (Generate streets) s = city_turn limits.objects streets s
act_turn limits found (History step) s = history_turn step s
act_turn limits found (Look look) s = still_turn (look_answer look s.now) s
act_turn limits found (File name purpose) s = purpose_turn limits found purpose s
-- the others are steps of a meeting alone
act_turn limits found act s = still_turn (reply_alone Skipped) s

-- in a group that was given up each act is skipped; its end ends the group
abbrev pub skipped_turn : Act → State → Turn
skipped_turn (History End) s = record { answer = reply_alone Skipped; state = ended s }
skipped_turn act s = still_turn (reply_alone Skipped) s

-- What an act answers with what it found, and the state after it.
abbrev pub turn : Limits → Found → Act → State → Turn
turn limits found act s = if is_given_up s.group then skipped_turn act s else act_turn limits found act s

-- The turn of a step that is given this.
abbrev pub step_turn : Limits → Given → Step → State → Turn
step_turn limits given step s = turn limits (found_in limits given s.group step.act) step.act s

-- the reply line, and the text behind it
abbrev pub response_text : ℕ → Response → TableValue → List ℕ
response_text line response t = reply_line line response.reply ++ behind_text response.behind t

-- what a turn writes
abbrev pub turn_text : ℕ → Turn → List ℕ
turn_text line t = response_text line t.answer t.state.now

-- What a step writes.
abbrev pub step_text : Limits → Given → Step → State → List ℕ
step_text limits given step s = turn_text step.line (step_turn limits given step s)
