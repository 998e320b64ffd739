-- The saves of a session's run: each writes a text that is read back as the very table.
--
-- For example after `save` and then `resume` of a file with what was written, the table now is the one that was saved, with
-- nothing to undo, whatever was there before.
use Rattle.std.specs.Prelude.{◌≡◌, ◌≤◌, ℕ, true, List, [], ◌++◌, Option, None, Some, Ok}
use Rattle.std.specs.List.{All, list_all}
use Rattle.std.specs.FinMap as fin
use Rattle.command_line.specs.Words.{CommandLineValue}
use Rattle.saved_session.specs.Resumed.{saved_table}
use Rattle.saved_session.specs.Savable.{is_before}
use Rattle.saved_session.specs.Saved.{ended, saved}
use Rattle.edit_script.specs.declared.step.Act.TheVariants.{Look}
use Rattle.edit_script.specs.declared.step.Look.TheVariants.{Save}
use Rattle.edit_script.specs.declared.step.Step.{Step}
use Rattle.edit_script.specs.declared.reply.StepReply.TheVariants.{Done}
use Rattle.edit_script.specs.Reply.{reply_line}
use Rattle.edit_history.specs.Machine.{State, fresh}
use Rattle.edit_steps.specs.declared.limits.Limits.{Limits}
use Rattle.edit_steps.specs.declared.loading.Found.TheVariants.{Bytes}
use Rattle.edit_steps.specs.Given.{Given}
use Rattle.edit_steps.specs.Limits.{limits_of}
use Rattle.edit_steps.specs.Turn.{done_turn, resume_turn, step_text, step_turn}
use Rattle.edit_session.specs.Uploads.{run_of}

-- The text stands behind the step's reply. Where the table has no more entries than a limit, the text gives the table again: in
-- any text where lines stand before it that are no headers, and anything behind it. And a `resume` of it makes the table the
-- one now for good.
pub record IsSaved (limits : Limits) (given : Given) (step : Step) (s : State) : Type 0 where
  pub text : step_text limits given step s ≡ reply_line step.line (Done []) ++ saved s.now
  pub again : (limit : ℕ) (front : List (List ℕ)) (behind : List ℕ) → fin.len s.now.entries ≤ limit → list_all is_before front ≡ true
      → saved_table limit (ended front ++ (saved s.now ++ behind)) ≡ Ok s.now
  pub resumed : (limit : ℕ) (u : State) → fin.len s.now.entries ≤ limit → resume_turn limit (Bytes (saved s.now)) u ≡ done_turn (fresh s.now)

-- Each save of a run that isn't skipped is so.
abbrev pub AreSaves : Limits → List (Step × Given × State) → Type 0
AreSaves limits steps = All (λ (at : Step × Given × State). at.0.act ≡ Look Save → (step_turn limits at.1 at.0 at.2).answer.reply ≡ Done [] → IsSaved limits at.1 at.0 at.2) steps

-- Each save of the run that a command line asks for is so where its reads gave this, if the words are one.
abbrev pub AreSavesBy : Option CommandLineValue → List Given → Type 0
AreSavesBy None given = Unit {0}
AreSavesBy (Some line) given = AreSaves (limits_of line) (run_of (limits_of line) given)
