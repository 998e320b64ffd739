-- The steps of a meeting keep what its editors have edited.
use Rattle.std.proofs.Common.{◌≡◌, ℕ, Bool, true, false, is_some, cond, List, [], get_or, take, Option, None, Some, Result, Ok, Err, refl, sym, ap, ◌∙◌, subst}
use Rattle.std.specs.Prelude.{slice_get}
use Rattle.osm_base.specs.Tags.{Pair}
use Rattle.osm_base.specs.declared.area.Area.{Area}
use Rattle.osm_base.specs.declared.key.Key.{Key}
use Rattle.opl_line.specs.declared.object.OplObject.{OplObject}
use Rattle.osm_table.specs.declared.told.Told.{Told}
use Rattle.dataset.specs.Sound.{IsSound}
use Rattle.tool_api.specs.declared.job.Job.TheVariants.{Merge}
use Rattle.upload_order.specs.declared.change.Change.{Change}
use Rattle.upload_order.specs.declared.refusal.PlanRefusal.{PlanRefusal}
use Rattle.upload_order.specs.Refused.{upload}
use Rattle.placeholder.specs.declared.answer.Answer.{Answer}
use Rattle.placeholder.specs.Confirm.{confirm}
use Rattle.server_world.specs.Codes.{Objects}
use Rattle.server_world.specs.Unsound.{first_unsound}
use Rattle.edit_script.specs.declared.reply.StepReply.TheVariants.{Skipped}
use Rattle.edit_script.specs.declared.step.Act.{Act}
use Rattle.edit_script.specs.declared.step.Act.TheVariants as act
use Rattle.edit_script.specs.declared.step.MeetStep.TheVariants as meet
use Rattle.edit_script.specs.declared.step.Purpose.TheVariants as purpose
use Rattle.edit_script.specs.declared.step.Step.{Step}
use Rattle.edit_history.specs.Machine.{State, refused_in}
use Rattle.edit_history.specs.Steps.{job_move}
use Rattle.editor_laws.specs.Answered.{KeepsAllBut, KeepsAllCalled, names_told}
use Rattle.editor_laws.specs.Invented.{InventsNone}
use Rattle.editor_laws.proofs.KeptAnswers.{confirm_keeps}
use Rattle.editor_laws.proofs.KeptRuns.{job_step_keeps}
use Rattle.many_editors.specs.Acts.{changes_met, fetch_met, send_met}
use Rattle.many_editors.specs.Meeting.{Editor, Meeting, answered, at_editor, at_work, confirmed_state, first_editor, first_meeting, lost, states, stepped, waiting_for, with_editor}
use Rattle.many_editors.specs.Sending as sending
use Rattle.many_editors.specs.Serving.{objects_served, told_of_state}
use Rattle.many_editors.specs.Sound as sound
use Rattle.many_editors.specs.Sound.{IsFrom, IsSoundMeeting}
use Rattle.many_editors.specs.States.{world_of}
use Rattle.many_editors.proofs.Lifting.{all_at}
use Rattle.edit_steps.specs.declared.limits.Limits.{Limits}
use Rattle.edit_steps.specs.declared.loading.Found.{Found}
use Rattle.edit_steps.specs.declared.loading.Found.TheVariants as found
use Rattle.edit_steps.specs.Given.{Given}
use Rattle.edit_steps.specs.Groups.{is_given_up}
use Rattle.edit_session.specs.Meet.{Seat, found_by, meet_turn, met_turn, own, own_turn, serve_turn, served_turn, still, wait_turn, work_turn}
use Rattle.edit_session.specs.MeetAsked.{MayBelong}
use Rattle.edit_session.specs.SaidMet.{answers_come, fetch_says, fetch_tells, seat_says, seat_tells, work_says, work_tells, IsKeptMet}
use Rattle.edit_steps.specs.Turn.{reply_alone, turn}
use Rattle.edit_session.proofs.InventsMet.{makes}
use Rattle.edit_session.proofs.Keeps.{refused_kept, still_kept, turn_kept}
use Rattle.edit_session.proofs.Seats.{Here, at_with, beside_with, own_at, with_kept}

-- One editor is changed, and in its table all is kept but what is said.
record Touches (answers : Option (List Answer)) (is_said : Key → Bool) (told : Key → Option Told) (seat : Seat) (m : Meeting) : Type 0 where
  pub change : Editor → Editor
  pub editors : m.editors ≡ with_editor seat.editor change seat.meeting.editors
  pub kept : KeepsAllBut answers is_said told (own seat).state.now (change (own seat)).state.now

module _ (limits : Limits) (f : Found) (seat : Seat) (here : Here seat) (sound_meeting : IsSoundMeeting seat.meeting) (table : IsSound (own seat).state.now) where
  abbrev s : State
  s = (own seat).state

  -- none is
  untouched : (is_said : Key → Bool) (told : Key → Option Told) (m : Meeting) → m.editors ≡ seat.meeting.editors → Touches None is_said told seat m
  untouched is_said told m same = record { change = λ e. e; editors = same ∙ sym (with_kept seat.editor (λ e. e) seat.meeting.editors refl); kept = still_kept s is_said told }

  touched : (answers : Option (List Answer)) (is_said : Key → Bool) (told : Key → Option Told) (change : Editor → Editor) → KeepsAllBut answers is_said told s.now (change (own seat)).state.now → Touches answers is_said told seat (at_editor seat.editor change seat.meeting)
  touched answers is_said told change kept = record { change = change; editors = refl; kept = kept }

  -- The server gets the objects of a file, before all else.
  served_touches : (is_said : Key → Bool) (told : Key → Option Told) (o : Option Key) (objects : List OplObject) → seat.meeting ≡ first_meeting 4 → Touches None is_said told seat (served_turn o objects seat).seat.meeting
  served_touches is_said told (Some key) objects first = untouched is_said told seat.meeting refl
  served_touches is_said told None objects first = untouched is_said told (served_turn None objects seat).seat.meeting (sym (ap (λ (m : Meeting). m.editors) first))

  serve_touches : (is_said : Key → Bool) (told : Key → Option Told) (g : Found) → seat.meeting ≡ first_meeting 4 → Touches None is_said told seat (serve_turn g seat).seat.meeting
  serve_touches is_said told (found.Objects objects) first = served_touches is_said told (first_unsound (world_of (objects_served objects))) objects first
  serve_touches is_said told g first = untouched is_said told seat.meeting refl

  -- An editor waits.
  will_confirm : (answers : List Answer) → (own seat).waits ≡ Some answers → sound.WillConfirm (states seat.meeting) s.now answers
  will_confirm answers some =
      let from : IsFrom (states seat.meeting) (own seat) = all_at (IsFrom (states seat.meeting)) seat.meeting.editors seat.editor (own seat) sound_meeting.editors (own_at seat here) in
      (subst (sound.MayWait (states seat.meeting) s) some from.waits).1

  answered_kept : (answers : List Answer) → sound.WillConfirm (states seat.meeting) s.now answers → KeepsAllCalled (names_told [] answers) s.now (confirmed_state (confirm s.now answers) s).now
  answered_kept answers will =
      subst (λ r. KeepsAllCalled (names_told [] answers) s.now (confirmed_state r s).now) (sym will.confirmed) (confirm_keeps s.now answers will.patch table will.confirmed)

  wait_touches : (a : Act) (answers : List Answer) (is_said : Key → Bool) (told : Key → Option Told) → (own seat).waits ≡ Some answers → Touches (answers_come a seat) is_said told seat (wait_turn a seat).seat.meeting
  wait_touches (act.Meet meet.Answer) answers is_said told some =
      touched (own seat).waits is_said told (answered (own seat).waits)
      (subst (λ (o : Option (List Answer)). KeepsAllBut o is_said told s.now (answered o (own seat)).state.now) (sym some) (answered_kept answers (will_confirm answers some)))
  wait_touches (act.Meet meet.Lost) answers is_said told some = touched None is_said told lost (still_kept s is_said told)
  wait_touches a answers is_said told some = untouched is_said told seat.meeting refl

  -- or it doesn't.
  fetch_touches : (area : Option Area) (wanted : Option (List Pair)) (o : Option Objects) → Touches None (fetch_says limits.objects area wanted o s) (fetch_tells area wanted o) seat (fetch_met limits.objects seat.editor area wanted s o seat.meeting).meeting
  fetch_touches area wanted None = touched None (fetch_says limits.objects area wanted None s) (fetch_tells area wanted None) (λ e. at_work (refused_in e.state.group e.state)) (refused_kept s s.group (fetch_tells area wanted None))
  fetch_touches area wanted (Some objects) =
      touched None (fetch_says limits.objects area wanted (Some objects) s) (fetch_tells area wanted (Some objects)) (stepped (job_move limits.objects (Merge (told_of_state objects area wanted))))
      (λ k e is edits free. job_step_keeps limits.objects (Merge (told_of_state objects area wanted)) s table k e is edits free)

  group_touches : (is_said : Key → Bool) (told : Key → Option Told) (area : Option Area) (wanted : Option (List Pair)) (o : Option Objects) (given_up : Bool) → Touches None is_said told seat (fetch_met limits.objects seat.editor area wanted s o seat.meeting).meeting
      → Touches None is_said told seat (cond given_up (still (reply_alone Skipped) seat) (met_turn (fetch_met limits.objects seat.editor area wanted s o seat.meeting) seat)).seat.meeting
  group_touches is_said told area wanted o true h = untouched is_said told seat.meeting refl
  group_touches is_said told area wanted o false h = h

  changes_touch : (is_said : Key → Bool) (told : Key → Option Told) (changes : List Change) (end : Option Key) → Touches None is_said told seat (changes_met seat.editor changes s end seat.meeting).meeting
  changes_touch is_said told changes (Some key) = untouched is_said told seat.meeting refl
  changes_touch is_said told changes None =
      record { change = waiting_for (sending.sent s.now seat.meeting.world seat.meeting.earlier changes).answers; editors = refl; kept = still_kept s is_said told }

  send_touches : (is_said : Key → Bool) (told : Key → Option Told) (count : ℕ) (r : Result (List Change) PlanRefusal) → Touches None is_said told seat (send_met seat.editor count s r seat.meeting).meeting
  send_touches is_said told count (Ok changes) = changes_touch is_said told (take count changes) (sending.version_end (take count changes))
  send_touches is_said told count (Err why) = untouched is_said told seat.meeting refl

  own_touches : (a : Act) (is_said : Key → Bool) (told : Key → Option Told) → KeepsAllBut None is_said told s.now (turn limits f a s).state.now → Touches None is_said told seat (own_turn (turn limits f a s) seat).seat.meeting
  own_touches a is_said told kept = touched None is_said told (λ e. record { state = (turn limits f a s).state; waits = e.waits }) kept

  work_touches : (a : Act) → MayBelong a seat.meeting → (own seat).waits ≡ None → Touches (answers_come a seat) (work_says limits f a seat) (work_tells f a seat) seat (work_turn limits f a seat).seat.meeting
  work_touches (act.Meet (meet.Fetch back area wanted)) belongs none =
      group_touches (fetch_says limits.objects area wanted (slice_get (states seat.meeting) back) s) (fetch_tells area wanted (slice_get (states seat.meeting) back)) area wanted (slice_get (states seat.meeting) back) (is_given_up s.group) (fetch_touches area wanted (slice_get (states seat.meeting) back))
  work_touches (act.Meet (meet.Send count)) belongs none = send_touches (work_says limits f (act.Meet (meet.Send count)) seat) (work_tells f (act.Meet (meet.Send count)) seat) count (upload s.now)
  work_touches (act.Meet meet.Answer) belongs none =
      subst (λ (o : Option (List Answer)). Touches o (work_says limits f (act.Meet meet.Answer) seat) (work_tells f (act.Meet meet.Answer) seat) seat seat.meeting) (sym none) (untouched (work_says limits f (act.Meet meet.Answer) seat) (work_tells f (act.Meet meet.Answer) seat) seat.meeting refl)
  work_touches (act.Meet meet.Lost) belongs none = untouched (work_says limits f (act.Meet meet.Lost) seat) (work_tells f (act.Meet meet.Lost) seat) seat.meeting refl
  work_touches (act.File name purpose.Confirm) belongs none = absurd cc
  work_touches a belongs none = own_touches a (work_says limits f a seat) (work_tells f a seat) (turn_kept s table limits f a refl)

  by_wait : (a : Act) → MayBelong a seat.meeting → (o : Option (List Answer)) → (own seat).waits ≡ o
      → Touches (answers_come a seat) (λ k. cond (is_some o) false (work_says limits f a seat k)) (λ k. cond (is_some o) None (work_tells f a seat k)) seat (cond (is_some o) (wait_turn a seat) (work_turn limits f a seat)).seat.meeting
  by_wait a belongs (Some answers) some = wait_touches a answers (λ k. false) (λ k. None) some
  by_wait a belongs None none = work_touches a belongs none

  touches : (a : Act) → MayBelong a seat.meeting → Touches (answers_come a seat) (seat_says limits f a seat) (seat_tells f a seat) seat (meet_turn limits f a seat).seat.meeting
  touches (act.Editor n) belongs = untouched (seat_says limits f (act.Editor n) seat) (seat_tells f (act.Editor n) seat) seat.meeting refl
  touches (act.Serve name) belongs = serve_touches (seat_says limits f (act.Serve name) seat) (seat_tells f (act.Serve name) seat) f belongs
  touches a belongs = by_wait a belongs (own seat).waits refl

-- Each step keeps what is edited.
pub kept_met : (limits : Limits) (given : Given) (step : Step) (seat : Seat) → Here seat → IsSoundMeeting seat.meeting → IsSound (own seat).state.now → MayBelong step.act seat.meeting → IsKeptMet limits given step seat
kept_met limits given step seat here sound_meeting table belongs =
    let f = found_by limits given (own seat) step.act in
    let t = touches limits f seat here sound_meeting table step.act belongs in
    let answers = answers_come step.act seat in
    let is_said : Key → Bool = seat_says limits f step.act seat in
    let told : Key → Option Told = seat_tells f step.act seat in
    let now = (own seat).state.now in
    let m = makes limits f seat table step.act belongs in
    record {
      own = subst (λ (es : List Editor). KeepsAllBut answers is_said told now (get_or es seat.editor first_editor).state.now) (sym t.editors)
          (subst (λ (e : Editor). KeepsAllBut answers is_said told now e.state.now) (sym (at_with seat.editor t.change seat.meeting.editors here.within)) t.kept);
      asked = λ none.
          subst (λ (es : List Editor). InventsNone is_said now (get_or es seat.editor first_editor).state.now) (sym m.editors)
          (subst (λ (e : Editor). InventsNone is_said now e.state.now) (sym (at_with seat.editor m.change seat.meeting.editors here.within)) (m.asked none));
      others = λ n other. ap (λ (es : List Editor). slice_get es n) t.editors ∙ beside_with seat.editor n t.change seat.meeting.editors other;
    }
