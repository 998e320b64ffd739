-- What others changed is heard in a session's run: whatever a step tells of an object in a newer version.
--
-- For example w5 was named here, and `download f` tells of it with other nodes. Where the step is done, w5 has both, or is in a conflict
-- of mine and what f tells.
use Rattle.std.specs.Prelude.{◌≡◌, List}
use Rattle.std.specs.List.{All}
use Rattle.osm_base.specs.declared.key.Key.{Key}
use Rattle.edit_script.specs.declared.step.Step.{Step}
use Rattle.edit_script.specs.declared.reply.StepReply.TheVariants.{Done}
use Rattle.edit_history.specs.Machine.{State}
use Rattle.editor_laws.specs.Heard.{HearsAll}
use Rattle.edit_steps.specs.declared.limits.Limits.{Limits}
use Rattle.edit_steps.specs.Given.{Given}
use Rattle.edit_steps.specs.Load.{found_in}
use Rattle.edit_steps.specs.Turn.{step_turn}
use Rattle.edit_session.specs.Meet.{Seat, found_by, meet_step, own}
use Rattle.edit_session.specs.Said.{act_tells}
use Rattle.edit_session.specs.SaidMet.{seat_tells, table_at}

-- Where the step is done, all news that it tells is heard.
abbrev pub StepHears : Limits → Given → Step → State → Type 0
StepHears limits given step s =
    (made : List Key) → (step_turn limits given step s).answer.reply ≡ Done made → HearsAll (act_tells (found_in limits given s.group step.act) step.act) s.now (step_turn limits given step s).state.now

-- So it is at each step of a run.
abbrev pub AreHeard : Limits → List (Step × Given × State) → Type 0
AreHeard limits steps = All (λ (at : Step × Given × State). StepHears limits at.1 at.0 at.2) steps

-- In a meeting it is heard in the table of the editor that makes the step.
abbrev pub StepHearsMet : Limits → Given → Step → Seat → Type 0
StepHearsMet limits given step seat =
    (made : List Key) → (meet_step limits given step seat).answer.reply ≡ Done made
    → HearsAll (seat_tells (found_by limits given (own seat) step.act) step.act seat) (table_at seat.editor seat.meeting) (table_at seat.editor (meet_step limits given step seat).seat.meeting)

abbrev pub AreHeardMet : Limits → List (Step × Given × Seat) → Type 0
AreHeardMet limits steps = All (λ (at : Step × Given × Seat). StepHearsMet limits at.1 at.0 at.2) steps
