-- The steps of a meeting make no edits of which they don't say so.
use Rattle.std.proofs.Common.{◌≡◌, ℕ, Bool, true, false, is_some, cond, List, take, Option, None, Some, Result, Ok, Err, refl, sym, ap, ◌∙◌}
use Rattle.std.specs.Prelude.{slice_get}
use Rattle.osm_base.specs.Tags.{Pair}
use Rattle.osm_base.specs.declared.area.Area.{Area}
use Rattle.osm_base.specs.declared.key.Key.{Key}
use Rattle.opl_line.specs.declared.object.OplObject.{OplObject}
use Rattle.dataset.specs.Sound.{IsSound}
use Rattle.tool_api.specs.declared.job.Job.TheVariants.{Merge}
use Rattle.upload_order.specs.declared.change.Change.{Change}
use Rattle.upload_order.specs.declared.refusal.PlanRefusal.{PlanRefusal}
use Rattle.upload_order.specs.Refused.{upload}
use Rattle.placeholder.specs.declared.answer.Answer.{Answer}
use Rattle.server_world.specs.Codes.{Objects}
use Rattle.server_world.specs.Unsound.{first_unsound}
use Rattle.edit_script.specs.declared.reply.StepReply.TheVariants.{Skipped}
use Rattle.edit_script.specs.declared.step.Act.{Act}
use Rattle.edit_script.specs.declared.step.Act.TheVariants as act
use Rattle.edit_script.specs.declared.step.MeetStep.TheVariants as meet
use Rattle.edit_script.specs.declared.step.Purpose.TheVariants as purpose
use Rattle.edit_history.specs.Machine.{State, refused_in}
use Rattle.edit_history.specs.Steps.{job_move}
use Rattle.editor_laws.specs.Invented.{InventsNone}
use Rattle.editor_laws.proofs.Invented.{job_step_invents}
use Rattle.many_editors.specs.Acts.{changes_met, fetch_met, send_met}
use Rattle.many_editors.specs.Meeting.{Editor, Meeting, answered, at_editor, at_work, first_meeting, lost, states, stepped, waiting_for, with_editor}
use Rattle.many_editors.specs.Sending as sending
use Rattle.many_editors.specs.Serving.{objects_served, told_of_state}
use Rattle.many_editors.specs.States.{world_of}
use Rattle.edit_steps.specs.declared.limits.Limits.{Limits}
use Rattle.edit_steps.specs.declared.loading.Found.{Found}
use Rattle.edit_steps.specs.declared.loading.Found.TheVariants as found
use Rattle.edit_steps.specs.Groups.{is_given_up}
use Rattle.edit_session.specs.Meet.{Seat, meet_turn, met_turn, own, own_turn, serve_turn, served_turn, still, wait_turn, work_turn}
use Rattle.edit_session.specs.MeetAsked.{MayBelong}
use Rattle.edit_session.specs.SaidMet.{answers_come, fetch_says, seat_says, work_says}
use Rattle.edit_steps.specs.Turn.{reply_alone, turn}
use Rattle.edit_session.proofs.Invents.{refused_invents, still_invents, turn_invents}
use Rattle.edit_session.proofs.Seats.{with_kept}

-- One editor is changed, and where no answers come nothing is made in its table that isn't said.
pub record Makes (answers : Option (List Answer)) (is_said : Key → Bool) (seat : Seat) (m : Meeting) : Type 0 where
  pub change : Editor → Editor
  pub editors : m.editors ≡ with_editor seat.editor change seat.meeting.editors
  pub asked : answers ≡ None → InventsNone is_said (own seat).state.now (change (own seat)).state.now

module _ (limits : Limits) (f : Found) (seat : Seat) (table : IsSound (own seat).state.now) where
  abbrev s : State
  s = (own seat).state

  -- none is
  untouched : (answers : Option (List Answer)) (is_said : Key → Bool) (m : Meeting) → m.editors ≡ seat.meeting.editors → Makes answers is_said seat m
  untouched answers is_said m same = record { change = λ e. e; editors = same ∙ sym (with_kept seat.editor (λ e. e) seat.meeting.editors refl); asked = λ none. still_invents s is_said }

  touched : (answers : Option (List Answer)) (is_said : Key → Bool) (change : Editor → Editor) → (answers ≡ None → InventsNone is_said s.now (change (own seat)).state.now) → Makes answers is_said seat (at_editor seat.editor change seat.meeting)
  touched answers is_said change asked = record { change = change; editors = refl; asked = asked }

  -- The server gets the objects of a file, before all else.
  served_makes : (is_said : Key → Bool) (o : Option Key) (objects : List OplObject) → seat.meeting ≡ first_meeting 4 → Makes None is_said seat (served_turn o objects seat).seat.meeting
  served_makes is_said (Some key) objects first = untouched None is_said seat.meeting refl
  served_makes is_said None objects first = untouched None is_said (served_turn None objects seat).seat.meeting (sym (ap (λ (m : Meeting). m.editors) first))

  serve_makes : (is_said : Key → Bool) (g : Found) → seat.meeting ≡ first_meeting 4 → Makes None is_said seat (serve_turn g seat).seat.meeting
  serve_makes is_said (found.Objects objects) first = served_makes is_said (first_unsound (world_of (objects_served objects))) objects first
  serve_makes is_said g first = untouched None is_said seat.meeting refl

  -- An editor waits.
  wait_makes : (a : Act) (answers : List Answer) (is_said : Key → Bool) → (own seat).waits ≡ Some answers → Makes (answers_come a seat) is_said seat (wait_turn a seat).seat.meeting
  wait_makes (act.Meet meet.Answer) answers is_said some =
      touched (own seat).waits is_said (answered (own seat).waits) (λ none. let never : Some answers ≡ None = sym some ∙ none in absurd cc)
  wait_makes (act.Meet meet.Lost) answers is_said some = touched None is_said lost (λ none. still_invents s is_said)
  wait_makes a answers is_said some = untouched None is_said seat.meeting refl

  -- or it doesn't.
  fetch_makes : (area : Option Area) (wanted : Option (List Pair)) (o : Option Objects) → Makes None (fetch_says limits.objects area wanted o s) seat (fetch_met limits.objects seat.editor area wanted s o seat.meeting).meeting
  fetch_makes area wanted None = touched None (fetch_says limits.objects area wanted None s) (λ e. at_work (refused_in e.state.group e.state)) (λ none. refused_invents s s.group)
  fetch_makes area wanted (Some objects) =
      touched None (fetch_says limits.objects area wanted (Some objects) s) (stepped (job_move limits.objects (Merge (told_of_state objects area wanted)))) (λ none. job_step_invents limits.objects (Merge (told_of_state objects area wanted)) s table)

  group_makes : (is_said : Key → Bool) (area : Option Area) (wanted : Option (List Pair)) (o : Option Objects) (given_up : Bool) → Makes None is_said seat (fetch_met limits.objects seat.editor area wanted s o seat.meeting).meeting
      → Makes None is_said seat (cond given_up (still (reply_alone Skipped) seat) (met_turn (fetch_met limits.objects seat.editor area wanted s o seat.meeting) seat)).seat.meeting
  group_makes is_said area wanted o true h = untouched None is_said seat.meeting refl
  group_makes is_said area wanted o false h = h

  changes_make : (is_said : Key → Bool) (changes : List Change) (end : Option Key) → Makes None is_said seat (changes_met seat.editor changes s end seat.meeting).meeting
  changes_make is_said changes (Some key) = untouched None is_said seat.meeting refl
  changes_make is_said changes None =
      record { change = waiting_for (sending.sent s.now seat.meeting.world seat.meeting.earlier changes).answers; editors = refl; asked = λ none. still_invents s is_said }

  send_makes : (is_said : Key → Bool) (count : ℕ) (r : Result (List Change) PlanRefusal) → Makes None is_said seat (send_met seat.editor count s r seat.meeting).meeting
  send_makes is_said count (Ok changes) = changes_make is_said (take count changes) (sending.version_end (take count changes))
  send_makes is_said count (Err why) = untouched None is_said seat.meeting refl

  own_makes : (a : Act) (is_said : Key → Bool) → InventsNone is_said s.now (turn limits f a s).state.now → Makes None is_said seat (own_turn (turn limits f a s) seat).seat.meeting
  own_makes a is_said asked = touched None is_said (λ e. record { state = (turn limits f a s).state; waits = e.waits }) (λ none. asked)

  work_makes : (a : Act) → MayBelong a seat.meeting → Makes (answers_come a seat) (work_says limits f a seat) seat (work_turn limits f a seat).seat.meeting
  work_makes (act.Meet (meet.Fetch back area wanted)) belongs =
      group_makes (fetch_says limits.objects area wanted (slice_get (states seat.meeting) back) s) area wanted (slice_get (states seat.meeting) back) (is_given_up s.group) (fetch_makes area wanted (slice_get (states seat.meeting) back))
  work_makes (act.Meet (meet.Send count)) belongs = send_makes (work_says limits f (act.Meet (meet.Send count)) seat) count (upload s.now)
  work_makes (act.Meet meet.Answer) belongs = untouched (own seat).waits (work_says limits f (act.Meet meet.Answer) seat) seat.meeting refl
  work_makes (act.Meet meet.Lost) belongs = untouched None (work_says limits f (act.Meet meet.Lost) seat) seat.meeting refl
  work_makes (act.File name purpose.Confirm) belongs = absurd cc
  work_makes a belongs = own_makes a (work_says limits f a seat) (turn_invents s table limits f a refl)

  by_wait : (a : Act) → MayBelong a seat.meeting → (o : Option (List Answer)) → (own seat).waits ≡ o
      → Makes (answers_come a seat) (λ k. cond (is_some o) false (work_says limits f a seat k)) seat (cond (is_some o) (wait_turn a seat) (work_turn limits f a seat)).seat.meeting
  by_wait a belongs (Some answers) some = wait_makes a answers (λ k. false) some
  by_wait a belongs None none = work_makes a belongs

  pub makes : (a : Act) → MayBelong a seat.meeting → Makes (answers_come a seat) (seat_says limits f a seat) seat (meet_turn limits f a seat).seat.meeting
  makes (act.Editor n) belongs = untouched None (seat_says limits f (act.Editor n) seat) seat.meeting refl
  makes (act.Serve name) belongs = serve_makes (seat_says limits f (act.Serve name) seat) f belongs
  makes a belongs = by_wait a belongs (own seat).waits refl
