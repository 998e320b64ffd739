-- The confirmations of a session's run: the upload goes on from what they make.
--
-- For example a file has a server's answer to the first of two changes of the plan, since then the connection broke. After
-- `confirm` the table can be sent to that server, and its plan is the second change alone.
use Rattle.std.specs.Prelude.{◌≡◌, ◌≤◌, ℕ, ℤ, false, List, [], ◌∷◌, length, take, Option, None, Some, Ok}
use Rattle.std.specs.List.{All, AllByRecursion}
use Rattle.command_line.specs.Words.{CommandLineValue}
use Rattle.upload_order.specs.declared.change.Change.{Change}
use Rattle.upload_order.specs.World.{World}
use Rattle.osm_table.specs.Table.{TableValue}
use Rattle.dataset.specs.Sound.{IsSound}
use Rattle.upload_order.specs.Refused.{upload}
use Rattle.server_world.specs.Codes.{Objects}
use Rattle.many_editors.specs.Laws.{GivesIds}
use Rattle.many_editors.specs.Sending.{Sent, sent_by, version_end}
use Rattle.many_editors.specs.States.{IsFromStates, IsHistory, IsServer}
use Rattle.placeholder.specs.Confirm.{answers_of}
use Rattle.placeholder.specs.Confirmed.{confirmed_all}
use Rattle.placeholder.specs.Laws.{FairAnswers}
use Rattle.answer_file.specs.Resumed.{GoesOn, TellsAnswers}
use Rattle.answer_file.specs.Text.{text_of}
use Rattle.edit_script.specs.declared.step.Act.TheVariants.{File}
use Rattle.edit_script.specs.declared.step.Purpose.TheVariants.{Confirm}
use Rattle.edit_script.specs.declared.step.Step.{Step}
use Rattle.edit_script.specs.declared.reply.StepReply.TheVariants.{Done}
use Rattle.edit_history.specs.Machine.{State}
use Rattle.edit_steps.specs.declared.limits.Limits.{Limits}
use Rattle.edit_steps.specs.Given.{Given}
use Rattle.edit_steps.specs.Groups.{is_given_up}
use Rattle.edit_steps.specs.Limits.{limits_of}
use Rattle.edit_steps.specs.Turn.{Turn, step_turn}
use Rattle.edit_session.specs.Uploads.{run_of}

-- The step is done, and this is the table after it.
abbrev pub IsTakenAs : TableValue → Turn → Type 0
IsTakenAs t turn = (turn.answer.reply ≡ Done []) × (turn.state.now ≡ t)

-- A server that the table is from took what it accepts of the first so many changes of its plan, up to one that it refuses, whatever
-- others had done before and whatever ids it picked, and told the answers that the file has. No change names the last version.
pub record TookSome (t : TableValue) (bytes : List ℕ) : Type 0 where
  pub world : World
  pub earlier : List Objects
  pub servers : AllByRecursion IsServer (world.entries ∷ earlier)
  pub history : IsHistory (world.entries ∷ earlier)
  pub from : IsFromStates (world.entries ∷ earlier) t
  pub sound : IsSound t
  pub changes : List Change
  pub planned : upload t ≡ Ok changes
  pub count : ℕ
  pub before_end : version_end (take count changes) ≡ None
  pub pick : World → Change → ℤ
  pub gives : GivesIds pick
  pub text : bytes ≡ text_of (sent_by pick world earlier (take count changes)).answers

-- what came of it
abbrev pub came_of : {t : TableValue} → {bytes : List ℕ} → TookSome t bytes → Sent
came_of took = sent_by took.pick took.world took.earlier (take took.count took.changes)

-- The step is done, and the table after it is from the states of that server as it is then.
abbrev pub IsFromThen : Sent → Turn → Type 0
IsFromThen came turn = (turn.answer.reply ≡ Done []) × IsFromStates (came.world.entries ∷ came.earlier) turn.state.now

-- Whatever sound server can take the table's plan, took the first of its changes, and told the answers that the file has:
-- such a file is taken, if it isn't too long, and where one is taken the upload goes on from the table after the step.
-- So it is after a send of which a part was refused, and the table is again from the states of that server, so that the next upload
-- overwrites nothing unseen.
-- And whatever server told answers to the first changes of the plan, be another change refused after them or not: they are taken
-- where each id is new to the table, and the table after the step is the one that they confirm.
pub record IsConfirmed (limits : Limits) (given : Given) (step : Step) (s : State) : Type 0 where
  pub taken : (bytes : List ℕ) → given ≡ Some bytes → length bytes ≤ limits.file → is_given_up s.group ≡ false
      → (w : World) (changes left : List Change) (ids : List ℤ) → TellsAnswers w s.now changes left ids bytes → (step_turn limits given step s).answer.reply ≡ Done []
  pub answered : (bytes : List ℕ) → given ≡ Some bytes → length bytes ≤ limits.file → is_given_up s.group ≡ false
      → (a : FairAnswers s.now) → bytes ≡ text_of (answers_of a.changes a.ids) → IsTakenAs (confirmed_all s.now a.changes a.ids) (step_turn limits given step s)
  pub refused : (bytes : List ℕ) → given ≡ Some bytes → length bytes ≤ limits.file → is_given_up s.group ≡ false
      → (took : TookSome s.now bytes) → IsFromThen (came_of took) (step_turn limits given step s)
  pub resumed : (bytes : List ℕ) → given ≡ Some bytes → (step_turn limits given step s).answer.reply ≡ Done []
      → (w : World) (changes left : List Change) (ids : List ℤ) → TellsAnswers w s.now changes left ids bytes → GoesOn w changes left ids (step_turn limits given step s).state.now

-- Each confirmation of a run is so.
abbrev pub AreConfirmed : Limits → List (Step × Given × State) → Type 0
AreConfirmed limits steps = All (λ (at : Step × Given × State). (name : List ℕ) → at.0.act ≡ File name Confirm → IsConfirmed limits at.1 at.0 at.2) steps

-- Each confirmation of the run that a command line asks for is so where its reads gave this, if the words are one.
abbrev pub AreConfirmedBy : Option CommandLineValue → List Given → Type 0
AreConfirmedBy None given = Unit {0}
AreConfirmedBy (Some line) given = AreConfirmed (limits_of line) (run_of (limits_of line) given)
