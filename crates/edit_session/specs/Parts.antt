-- What a step of a script leaves of the objects that it names.
--
-- For example `tag n1 Ta=1` leaves n1 where it is, and `move n1 0.1 0` leaves its tags.
use Rattle.std.specs.Prelude.{◌≡◌, List}
use Rattle.std.specs.List.{All}
use Rattle.osm_base.specs.declared.key.Key.{Key}
use Rattle.tool_api.specs.declared.job.Job as jobs
use Rattle.edit_script.specs.declared.reply.StepReply.TheVariants.{Done}
use Rattle.edit_script.specs.declared.step.Act.TheVariants.{Job}
use Rattle.edit_script.specs.declared.step.Step.{Step}
use Rattle.edit_history.specs.Machine.{State}
use Rattle.editor_laws.specs.Listed.{LeavesParts}
use Rattle.edit_steps.specs.declared.limits.Limits.{Limits}
use Rattle.edit_steps.specs.Given.{Given}
use Rattle.edit_steps.specs.Turn.{step_turn}

-- A job that is done leaves of each object the parts that it wasn't asked to change.
abbrev pub StepLeavesParts : Limits → Given → Step → State → Type 0
StepLeavesParts limits given step s =
    (job : jobs.Job) (made : List Key) → step.act ≡ Job job → (step_turn limits given step s).answer.reply ≡ Done made → LeavesParts job s.now (step_turn limits given step s).state.now

-- So does each step of a run.
abbrev pub LeaveParts : Limits → List (Step × Given × State) → Type 0
LeaveParts limits steps = All (λ (at : Step × Given × State). StepLeavesParts limits at.1 at.0 at.2) steps
