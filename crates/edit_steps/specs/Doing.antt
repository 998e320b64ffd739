-- What a step of a script comes to, once its file was read and the table looked at: one step on the table, if any, and
-- what is answered.
use Rattle.std.specs.Prelude.{◌≡◌, ℕ, true, List, Result, Ok, Err}
use Rattle.osm_table.specs.Table.{TableValue}
use Rattle.dataset.specs.Patch.{PatchValue, after_of}
use Rattle.tool_api.specs.declared.verb.Verb.{Verb}
use Rattle.edit_script.specs.declared.step.Act.{Act}
use Rattle.edit_script.specs.declared.step.Act.TheVariants.{History}
use Rattle.edit_script.specs.declared.step.HistoryStep.{HistoryStep}
use Rattle.edit_script.specs.declared.step.HistoryStep.TheVariants.{Begin, End, Undo, Redo}
use Rattle.edit_script.specs.declared.reply.StepRefusal.{StepRefusal}
use Rattle.edit_script.specs.declared.reply.StepReply.TheVariants.{Refused, Skipped}
use Rattle.edit_script.specs.Place.{belongs}
use Rattle.edit_history.specs.declared.counts.Group.{Group}
use Rattle.edit_history.specs.declared.counts.Group.TheVariants.{Running}
use Rattle.edit_history.specs.declared.edit_step.EditStep.{EditStep}
use Rattle.edit_history.specs.declared.edit_step.EditStep.TheVariants as steps
use Rattle.edit_history.specs.Machine.{State, settled}
use Rattle.edit_history.specs.Moved.{MayRun, MaySettle}
use Rattle.edit_history.specs.Steps.{edited, MayEdit}
use Rattle.editor_laws.specs.Editing.{IsEdit}
use Rattle.edit_steps.specs.declared.doing.Doing.{Doing}
use Rattle.edit_steps.specs.declared.doing.Doing.TheVariants.{Takes, Runs, Settles, Says, Stays}
use Rattle.edit_steps.specs.Asked.{MayTake}
use Rattle.edit_steps.specs.Planned.{IsSized}
use Rattle.edit_steps.specs.Turn.{Turn, done_turn, job_turn, moved_turn, reply_alone, still_turn}

-- the turn that comes of it
abbrev pub played : ℕ → Doing → State → Turn
played limit (Takes step) s = moved_turn (edited limit step s)
played limit (Runs job) s = job_turn limit job s
played limit (Settles patch) s = done_turn (settled (after_of patch s.now) s)
played limit (Says step reply) s = record { answer = reply_alone reply; state = (edited limit step s).state }
played limit (Stays answer) s = still_turn answer s

-- the state with this table now and this group
abbrev pub seen : TableValue → Group → State → State
seen t g s = record { past = s.past; now = t; undone = s.undone; group = g; start = s.start; accepted = s.accepted }

-- a step of a group that was given up
abbrev pub skipped_by : Act → Doing
skipped_by (History End) = Says steps.End Skipped
skipped_by act = Stays (reply_alone Skipped)

-- the step on the table that a step on the history is
abbrev pub edit_step : HistoryStep → EditStep
edit_step Begin = steps.Begin
edit_step End = steps.End
edit_step (Undo n) = steps.Undo n
edit_step (Redo n) = steps.Redo n

-- refused before there was a job; a running group is given up
abbrev pub refused_by : Group → StepRefusal → Doing
refused_by Running why = Says steps.GiveUp (Refused why)
refused_by other why = Stays (reply_alone (Refused why))

-- a difference is settled, where there is one
abbrev pub settled_by : Result PatchValue StepRefusal → Doing
settled_by (Ok patch) = Settles patch
settled_by (Err why) = Stays (reply_alone (Refused why))

-- It comes to the turn, whatever else the state has.
abbrev pub Plays : ℕ → TableValue → Group → (State → Turn) → Doing → Type 0
Plays limit t g turn doing = (s : State) → played limit doing (seen t g s) ≡ turn (seen t g s)

-- its step may be taken
abbrev pub MayDo : Doing → State → List Verb → Type 0
MayDo (Takes step) s verbs = MayEdit step s verbs
MayDo (Runs job) s verbs = MayRun job s verbs
MayDo (Settles patch) s verbs = MaySettle patch s verbs
MayDo (Says step reply) s verbs = MayEdit step s verbs
MayDo (Stays answer) s verbs = Unit {0}

-- That is so where the act may be taken.
abbrev pub MayDoAct : Act → TableValue → Group → Doing → Type 0
MayDoAct act t g doing = (s : State) (verbs : List Verb) → MayTake act (seen t g s) verbs → MayDo doing (seen t g s) verbs

-- it neither takes in a download nor settles what a server answered
abbrev pub IsOwn : Doing → Type 0
IsOwn (Takes step) = IsEdit step
IsOwn (Runs job) = ⊥
IsOwn (Settles patch) = ⊥
IsOwn (Says step reply) = IsEdit step
IsOwn (Stays answer) = Unit {0}

-- and so does no act of a meeting.
abbrev pub IsOwnIn : Act → Doing → Type 0
IsOwnIn act doing = belongs true act ≡ true → IsOwn doing

-- what it answers is sized
abbrev pub IsSizedBy : Doing → Type 0
IsSizedBy (Stays answer) = IsSized answer.behind
IsSizedBy doing = Unit {0}

-- All that is known of it.
pub record Comes (limit : ℕ) (act : Act) (t : TableValue) (g : Group) (turn : State → Turn) (doing : Doing) : Type 0 where
  pub plays : Plays limit t g turn doing
  pub may : MayDoAct act t g doing
  pub own : IsOwnIn act doing
  pub sized : IsSizedBy doing
