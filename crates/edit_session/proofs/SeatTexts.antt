-- The tables of a meeting script have texts that may be written.
use Rattle.std.proofs.Common.{ℕ, zero, suc, Bool, true, false, is_some, if◌then◌else◌, List, [], ◌∷◌, drop, get_or, map, Option, None, Some, refl}
use Rattle.std.specs.Prelude.{slice_get}
use Rattle.std.specs.List.{AllByRecursion}
use Rattle.std.proofs.lemmas.List.Elements.{All-nil, All-cons}
use Rattle.osm_base.specs.declared.key.Key.{Key}
use Rattle.opl_line.specs.declared.object.OplObject.{OplObject}
use Rattle.upload_order.specs.Refused.{upload_refusal}
use Rattle.placeholder.specs.declared.answer.Answer.{Answer}
use Rattle.server_world.specs.Unsound.{first_unsound}
use Rattle.edit_script.specs.declared.step.Act.{Act}
use Rattle.edit_script.specs.declared.step.Act.TheVariants as act
use Rattle.edit_script.specs.declared.step.MeetStep.TheVariants as meet
use Rattle.edit_script.specs.declared.step.Step.{Step}
use Rattle.edit_history.specs.Machine.{State}
use Rattle.many_editors.specs.Meeting.{Editor, answered, first_editor, lost, states}
use Rattle.many_editors.specs.Serving.{objects_served}
use Rattle.many_editors.specs.States.{world_of}
use Rattle.editor_laws.specs.Texts.{IsTextTable}
use Rattle.editor_laws.proofs.TextFiles.{IsTextObject}
use Rattle.edit_session.proofs.ScriptTexts.{ActBringsTexts, StepsBringTexts}
use Rattle.many_editors.specs.Texts.{IsTextEditor, IsTextMeeting}
use Rattle.many_editors.proofs.MeetingTexts.{answered_texts, at_texts, fetch_texts, send_texts, served_texts}
use Rattle.edit_steps.specs.declared.limits.Limits.{Limits}
use Rattle.edit_steps.specs.declared.loading.Found.{Found}
use Rattle.edit_steps.specs.declared.loading.Found.TheVariants as found
use Rattle.edit_steps.specs.Given.{Given, first_given}
use Rattle.edit_steps.specs.Groups.{is_given_up}
use Rattle.edit_steps.specs.Load.{act_found, found_in}
use Rattle.edit_session.specs.Meet.{MeetTurn, Seat, found_by, meet_step, meet_turn, own, own_machine, own_turn, seats_before, serve_turn, served_turn, wait_turn, work_turn}
use Rattle.edit_steps.specs.Turn.{Turn, turn}
use Rattle.edit_session.proofs.Texts.{AreTextTables, FoundBrings, HaveTexts, first_texts, found_brings, if_given, turn_texts}

-- the editor with this number, or one that has done nothing
pub own_texts : (es : List Editor) (n : ℕ) → AllByRecursion IsTextEditor es → IsTextEditor (get_or es n first_editor)
own_texts [] n h = first_texts
own_texts (e ∷ es) zero h = h.0
own_texts (e ∷ es) (suc n) h = own_texts es n h.1

either_seat : (b : Bool) (x y : MeetTurn) → IsTextMeeting x.seat.meeting → IsTextMeeting y.seat.meeting → IsTextMeeting (if b then x else y).seat.meeting
either_seat true x y h i = h
either_seat false x y h i = i

-- The server gets the objects of a file.
served_turn_texts : (o : Option Key) (objects : List OplObject) (seat : Seat) → AllByRecursion IsTextObject objects → IsTextMeeting seat.meeting → IsTextMeeting (served_turn o objects seat).seat.meeting
served_turn_texts (Some key) objects seat i h = h
served_turn_texts None objects seat i h = served_texts objects 4 i

serve_texts : (f : Found) (seat : Seat) → FoundBrings f → IsTextMeeting seat.meeting → IsTextMeeting (serve_turn f seat).seat.meeting
serve_texts (found.Objects objects) seat i h = served_turn_texts (first_unsound (world_of (objects_served objects))) objects seat i h
serve_texts f seat i h = h

-- An editor waits.
any_answered : (o : Option (List Answer)) (e : Editor) → IsTextEditor e → IsTextEditor (answered o e)
any_answered None e h = h
any_answered (Some answers) e h = answered_texts answers e h

wait_texts : (a : Act) (seat : Seat) → IsTextMeeting seat.meeting → IsTextMeeting (wait_turn a seat).seat.meeting
wait_texts (act.Meet meet.Answer) seat h = at_texts seat.editor (answered (own seat).waits) seat.meeting (λ e t. any_answered (own seat).waits e t) h
wait_texts (act.Meet meet.Lost) seat h = at_texts seat.editor lost seat.meeting (λ e t. t) h
wait_texts a seat h = h

-- or it doesn't.
own_turn_texts : (t : Turn) (seat : Seat) → HaveTexts t.state → IsTextMeeting seat.meeting → IsTextMeeting (own_turn t seat).seat.meeting
own_turn_texts t seat i h = at_texts seat.editor (λ e. record { state = t.state; waits = e.waits }) seat.meeting (λ e x. i) h

work_texts : (limits : Limits) (f : Found) (a : Act) (seat : Seat) → FoundBrings f → ActBringsTexts a → IsTextMeeting seat.meeting → IsTextMeeting (work_turn limits f a seat).seat.meeting
work_texts limits f (act.Meet (meet.Fetch back area wanted)) seat i j h =
    either_seat (is_given_up (own seat).state.group) _ _ h (fetch_texts limits.objects seat.editor area wanted (own seat).state back (slice_get (states seat.meeting) back) seat.meeting refl h)
work_texts limits f (act.Meet (meet.Send count)) seat i j h = send_texts seat.editor count (own seat).state (upload_refusal (own seat).state.now) seat.meeting (own_texts seat.meeting.editors seat.editor h.editors).now h
work_texts limits f (act.Meet meet.Answer) seat i j h = h
work_texts limits f (act.Meet meet.Lost) seat i j h = h
work_texts limits f a seat i j h = own_turn_texts (turn limits f a (own seat).state) seat (turn_texts limits f a (own seat).state i j (own_texts seat.meeting.editors seat.editor h.editors)) h

-- A step keeps it so,
pub seat_texts : (limits : Limits) (f : Found) (a : Act) (seat : Seat) → FoundBrings f → ActBringsTexts a → IsTextMeeting seat.meeting → IsTextMeeting (meet_turn limits f a seat).seat.meeting
seat_texts limits f (act.Editor n) seat i j h = h
seat_texts limits f (act.Serve name) seat i j h = serve_texts f seat i h
seat_texts limits f a seat i j h = either_seat (is_some (own seat).waits) (wait_turn a seat) (work_turn limits f a seat) (wait_texts a seat h) (work_texts limits f a seat i j h)

pub met_brings : (limits : Limits) (given : Given) (e : Editor) (a : Act) → FoundBrings (found_by limits given e a)
met_brings limits given e a = if_given (is_some e.waits) (found_in limits given e.state.group a) (if_given (is_given_up e.state.group) (act_found limits given a) (found_brings limits given a))

-- and so it is before each step.
pub seats_texts : (limits : Limits) (given : List Given) (steps : List Step) (seat : Seat) → StepsBringTexts steps → IsTextMeeting seat.meeting → AreTextTables (map own_machine (seats_before limits given steps seat))
seats_texts limits given [] seat i h = All-nil (λ (at : Step × Given × State). IsTextTable at.2.now)
seats_texts limits given (step ∷ steps) seat i h =
    let got = first_given given in
    let next : Seat = (meet_step limits got step seat).seat in
    All-cons (λ (at : Step × Given × State). IsTextTable at.2.now) (own_machine (step, got, seat)) (map own_machine (seats_before limits (drop 1 given) steps next)) (own_texts seat.meeting.editors seat.editor h.editors).now
    (seats_texts limits (drop 1 given) steps next i.1 (seat_texts limits (found_by limits got (own seat) step.act) step.act seat (met_brings limits got (own seat) step.act) i.0 h))
