-- No step of a script makes an edit of which it doesn't say so.
--
-- For example `tag n1 Ta=1` says it of n1, and `download` of none: what is edited after it was edited before, or is new.
use Rattle.std.specs.Prelude.{◌≡◌, List, None}
use Rattle.std.specs.List.{All}
use Rattle.edit_script.specs.declared.step.Step.{Step}
use Rattle.edit_history.specs.Machine.{State}
use Rattle.editor_laws.specs.Invented.{InventsNone}
use Rattle.edit_steps.specs.declared.limits.Limits.{Limits}
use Rattle.edit_steps.specs.Given.{Given}
use Rattle.edit_steps.specs.Load.{found_in}
use Rattle.edit_steps.specs.Turn.{step_turn}
use Rattle.edit_session.specs.Said.{act_says, answers_taken}

-- One that takes no answers makes none: what is edited after it, and of which it doesn't say so, was edited before it, or is new.
abbrev pub StepInventsNone : Limits → Given → Step → State → Type 0
StepInventsNone limits given step s =
    let found = found_in limits given s.group step.act in
    answers_taken step.act found s ≡ None → InventsNone (act_says limits found step.act s) s.now (step_turn limits given step s).state.now

-- So does each step of a run.
abbrev pub AreAsked : Limits → List (Step × Given × State) → Type 0
AreAsked limits steps = All (λ (at : Step × Given × State). StepInventsNone limits at.1 at.0 at.2) steps
