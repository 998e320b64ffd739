-- A step of a meeting that looks at its editor's table writes what it writes in a script of that editor alone.
use Rattle.std.proofs.Common.{◌≡◌, ◌<◌, ℕ, Bool, true, false, is_some, cond, List, length, Option, None, Some, refl, sym, ap, subst}
use Rattle.placeholder.specs.declared.answer.Answer.{Answer}
use Rattle.edit_script.specs.declared.reply.StepReply.TheVariants.{Skipped}
use Rattle.edit_script.specs.declared.step.Act.{Act}
use Rattle.edit_script.specs.declared.step.Act.TheVariants as act
use Rattle.edit_script.specs.declared.step.Look.{Look}
use Rattle.edit_script.specs.declared.step.Step.{Step}
use Rattle.edit_history.specs.Machine.{State}
use Rattle.many_editors.specs.Sound.{IsSoundMeeting}
use Rattle.edit_steps.specs.declared.limits.Limits.{Limits}
use Rattle.edit_steps.specs.declared.loading.Found.{Found}
use Rattle.edit_steps.specs.declared.response.Response.{Response}
use Rattle.edit_steps.specs.Given.{Given}
use Rattle.edit_steps.specs.Groups.{is_given_up}
use Rattle.edit_steps.specs.Load.{found_in}
use Rattle.edit_session.specs.Meet.{Seat, found_by, meet_step_text, meet_text, meet_turn, own, own_turn, still}
use Rattle.edit_steps.specs.Looks.{look_answer}
use Rattle.edit_steps.specs.Turn.{reply_alone, step_text, still_turn, turn, turn_text, Turn}
use Rattle.edit_session.proofs.Seated.{waits_outside}
use Rattle.edit_session.proofs.Seats.{own_still}

module _ (limits : Limits) (line : ℕ) (seat : Seat) (here : seat.editor < length seat.meeting.editors) (sound : IsSoundMeeting seat.meeting) (look : Look) where
  abbrev s : State
  s = (own seat).state

  abbrev answer : Response
  answer = look_answer look s.now

  -- the turn of a look, with a group that was given up or without
  abbrev look_turn : Bool → Turn
  look_turn given_up = cond given_up (still_turn (reply_alone Skipped) s) (still_turn answer s)

  -- the text of an editor that doesn't wait
  own_text : (given_up : Bool) → meet_text line (own_turn (look_turn given_up) seat) ≡ turn_text line (look_turn given_up)
  own_text true = ap (meet_text line) (own_still (reply_alone Skipped) seat)
  own_text false = ap (meet_text line) (own_still answer seat)

  -- and of one that waits, which has no group open
  by_wait : (o : Option (List Answer)) → (own seat).waits ≡ o → meet_text line (cond (is_some o) (still answer seat) (own_turn (look_turn (is_given_up s.group)) seat)) ≡ turn_text line (look_turn (is_given_up s.group))
  by_wait None none = own_text (is_given_up s.group)
  by_wait (Some answers) some = ap (λ b. turn_text line (look_turn b)) (sym (ap is_given_up (waits_outside seat answers sound here some)))

  looks_so : (f g : Found) → meet_text line (meet_turn limits f (act.Look look) seat) ≡ turn_text line (turn limits g (act.Look look) s)
  looks_so f g = by_wait (own seat).waits refl

pub looks_alike : (limits : Limits) (given : Given) (step : Step) (seat : Seat) → seat.editor < length seat.meeting.editors → IsSoundMeeting seat.meeting
    → (look : Look) → step.act ≡ act.Look look → meet_step_text limits given step seat ≡ step_text limits given step (own seat).state
looks_alike limits given step seat here sound look is =
    subst (λ (a : Act). meet_text step.line (meet_turn limits (found_by limits given (own seat) a) a seat) ≡ turn_text step.line (turn limits (found_in limits given (own seat).state.group a) a (own seat).state)) (sym is)
    (looks_so limits step.line seat here sound look (found_by limits given (own seat) (act.Look look)) (found_in limits given (own seat).state.group (act.Look look)))
