-- What the functions of a session ask of the history that they move.
use Rattle.std.specs.Prelude.{◌≡◌, true, List, None, IfSome}
use Rattle.tool_api.specs.declared.verb.Verb.{Verb}
use Rattle.edit_script.specs.declared.step.Act.{Act}
use Rattle.edit_script.specs.declared.step.Step.{Step}
use Rattle.edit_script.specs.Order.{IsMeant, may_stand}
use Rattle.edit_history.specs.Machine.{State, first_state}
use Rattle.edit_history.specs.Shown.{IsThere}
use Rattle.edit_steps.specs.Groups.{is_open}
use Rattle.edit_steps.specs.Needs.{needs, missing_verb}

-- an act that may stand there, and its tool
pub record MayTake (act : Act) (s : State) (verbs : List Verb) : Type 0 where
  pub meant : IsMeant act
  pub stands : may_stand (is_open s.group) act ≡ true
  pub there : IfSome (needs act) (λ verb. IsThere verb verbs)

-- a session begins, and no step misses its tool
pub record MayRunAll (steps : List Step) (s : State) (verbs : List Verb) : Type 0 where
  pub first : s ≡ first_state
  pub there : missing_verb verbs steps ≡ None
