-- What others changed is heard at each step of a meeting.
use Rattle.std.proofs.Common.{◌≡◌, ◌<◌, ℕ, zero, suc, Bool, true, false, is_some, cond, List, [], ◌∷◌, drop, take, length, Option, None, Some, refl, sym, ap, subst, arith}
use Rattle.std.specs.Prelude.{slice_get}
use Rattle.std.specs.List.{All}
use Rattle.std.proofs.lemmas.List.{take_all}
use Rattle.std.proofs.lemmas.List.Elements.{All-nil, All-cons, All-head, All-tail, All-take, All-weaker}
use Rattle.osm_base.specs.Tags.{Pair}
use Rattle.osm_base.specs.declared.area.Area.{Area}
use Rattle.osm_base.specs.declared.key.Key.{Key}
use Rattle.osm_table.specs.declared.entry.Base.{Base}
use Rattle.osm_table.specs.declared.told.Told.{Told}
use Rattle.osm_table.specs.Table.{TableValue}
use Rattle.tool_api.specs.declared.job.Job.TheVariants.{Merge}
use Rattle.placeholder.specs.declared.answer.Answer.{Answer}
use Rattle.server_world.specs.Codes.{Objects}
use Rattle.edit_script.specs.declared.reply.StepReply.TheVariants.{Done, Skipped}
use Rattle.edit_script.specs.declared.step.Act.{Act}
use Rattle.edit_script.specs.declared.step.Act.TheVariants as act
use Rattle.edit_script.specs.declared.step.MeetStep.TheVariants as meet
use Rattle.edit_script.specs.declared.step.Step.{Step}
use Rattle.edit_script.specs.Place.{is_meeting}
use Rattle.edit_history.specs.declared.counts.Group.TheVariants as group
use Rattle.edit_history.specs.declared.edit_step.EditAnswer.{EditAnswer}
use Rattle.edit_history.specs.declared.edit_step.EditAnswer.TheVariants as edit
use Rattle.edit_history.specs.Machine.{State}
use Rattle.edit_history.specs.Steps.{job_move}
use Rattle.editor_laws.specs.Heard.{HearsAll}
use Rattle.editor_laws.specs.Steps.{tells}
use Rattle.editor_laws.specs.Telling.{IsToldSide}
use Rattle.editor_laws.specs.Texts.{IsTextTable}
use Rattle.editor_laws.proofs.HeardSteps.{job_step_hears}
use Rattle.many_editors.specs.Acts.{fetch_met}
use Rattle.many_editors.specs.Meeting.{Editor, at_editor, states, stepped}
use Rattle.many_editors.specs.Own.{own_reply}
use Rattle.many_editors.specs.Serving.{told_of_state}
use Rattle.many_editors.specs.Texts.{IsTextMeeting, IsTextState}
use Rattle.many_editors.proofs.MeetingTexts as meetings
use Rattle.edit_steps.specs.declared.files.Fetched.{Fetched}
use Rattle.edit_steps.specs.declared.limits.Limits.{Limits}
use Rattle.edit_steps.specs.declared.loading.Found.{Found}
use Rattle.edit_steps.specs.Given.{Given, first_given}
use Rattle.edit_steps.specs.Groups.{is_given_up}
use Rattle.edit_steps.specs.Turn.{Turn, reply_alone, turn}
use Rattle.edit_session.specs.Heard.{AreHeardMet, StepHearsMet}
use Rattle.edit_session.specs.Meet.{MeetTurn, Seat, first_seat, found_by, meet_step, meet_turn, met_response, met_turn, own, own_turn, seats_before, still, wait_turn, work_turn}
use Rattle.edit_session.specs.Met.{AreBegun, AreMet, IsBegun, IsMet}
use Rattle.edit_session.specs.Said.{act_tells}
use Rattle.edit_session.specs.SaidMet.{fetch_tells, seat_tells, table_at, work_tells}
use Rattle.edit_session.specs.Session.{met, steps_in}
use Rattle.edit_session.specs.Session as session
use Rattle.edit_session.proofs.Hears.{TurnHears, not_refused, turn_heard}
use Rattle.edit_session.proofs.Saves.{in_brings}
use Rattle.edit_session.proofs.ScriptTexts.{ActBringsTexts, StepsBringTexts}
use Rattle.edit_session.proofs.Seats.{Here, at_with}
use Rattle.edit_session.proofs.SeatTexts.{met_brings, own_texts, seat_texts}
use Rattle.edit_session.proofs.Texts.{FoundBrings}

-- a fetch that is done by a move of the machine
reply_move : (a : EditAnswer) (made : List Key) → (met_response (own_reply a)).reply ≡ Done made → a ≡ edit.Done made
reply_move (edit.Done keys) made is = let same : keys ≡ made = cc in ap edit.Done same
reply_move (edit.Refused why) made is = absurd cc

-- nothing is told either way
none_told : (b : Bool) (theirs : Base) → IsToldSide (cond b None None) theirs → ⊥
none_told true theirs side = side
none_told false theirs side = side

module _ (limits : Limits) (f : Found) (seat : Seat) (here : Here seat) (texts : IsTextMeeting seat.meeting) where
  abbrev s : State
  s = (own seat).state

  table_texts : IsTextTable s.now
  table_texts = (own_texts seat.meeting.editors seat.editor texts.editors).now

  -- Where a step is done, what is told is heard in its editor's table.
  abbrev HearsAt : (Key → Option Told) → MeetTurn → Type 0
  HearsAt told t = (made : List Key) → t.answer.reply ≡ Done made → HearsAll told s.now (table_at seat.editor t.seat.meeting)

  at_own : (change : Editor → Editor) (P : TableValue → Type 0) → P (change (own seat)).state.now → P (table_at seat.editor (at_editor seat.editor change seat.meeting))
  at_own change P h = subst (λ (e : Editor). P e.state.now) (sym (at_with seat.editor change seat.meeting.editors here.within)) h

  own_heard : (told : Key → Option Told) (t : Turn) → TurnHears s told t → HearsAt told (own_turn t seat)
  own_heard told t h made is = at_own (λ e. record { state = t.state; waits = e.waits }) (HearsAll told s.now) (h made is)

  fetch_heard : (area : Option Area) (wanted : Option (List Pair)) (o : Option Objects) → (s.group ≡ group.Refused → ⊥) → ((objects : Objects) → o ≡ Some objects → IsTextState objects)
      → HearsAt (fetch_tells area wanted o) (met_turn (fetch_met limits.objects seat.editor area wanted s o seat.meeting) seat)
  fetch_heard area wanted None free of = λ made is k theirs side news. absurd side
  fetch_heard area wanted (Some objects) free of = λ made is.
      let told = told_of_state objects area wanted in
      at_own (stepped (job_move limits.objects (Merge told))) (HearsAll (tells (Merge told)) s.now)
      (job_step_hears limits.objects (Merge told) s free table_texts (meetings.told_texts objects area wanted (of objects refl)) made (reply_move (job_move limits.objects (Merge told) s).answer made is))

  group_heard : (back : ℕ) (area : Option Area) (wanted : Option (List Pair)) (b : Bool) → is_given_up s.group ≡ b
      → HearsAt (fetch_tells area wanted (slice_get (states seat.meeting) back)) (cond b (still (reply_alone Skipped) seat) (met_turn (fetch_met limits.objects seat.editor area wanted s (slice_get (states seat.meeting) back) seat.meeting) seat))
  group_heard back area wanted true e = λ made is. let never : Skipped ≡ Done made = is in absurd cc
  group_heard back area wanted false e =
      fetch_heard area wanted (slice_get (states seat.meeting) back) (not_refused s.group e) (λ objects at. meetings.state_at (states seat.meeting) back objects texts.servers at)

  work_heard : (a : Act) → FoundBrings f → ActBringsTexts a → HearsAt (work_tells f a seat) (work_turn limits f a seat)
  work_heard (act.Meet (meet.Fetch back area wanted)) brings acts = group_heard back area wanted (is_given_up s.group) refl
  work_heard (act.Meet (meet.Send count)) brings acts = λ made is k theirs side news. absurd side
  work_heard (act.Meet meet.Answer) brings acts = λ made is k theirs side news. absurd side
  work_heard (act.Meet meet.Lost) brings acts = λ made is k theirs side news. absurd side
  work_heard a brings acts = own_heard (act_tells f a) (turn limits f a s) (turn_heard s table_texts limits f a (is_given_up s.group) (not_refused s.group) brings acts)

  by_wait : (a : Act) (o : Option (List Answer)) → FoundBrings f → ActBringsTexts a → HearsAt (λ k. cond (is_some o) None (work_tells f a seat k)) (cond (is_some o) (wait_turn a seat) (work_turn limits f a seat))
  by_wait a (Some answers) brings acts = λ made is k theirs side news. absurd side
  by_wait a None brings acts = work_heard a brings acts

  turn_hears : (a : Act) → FoundBrings f → ActBringsTexts a → HearsAt (seat_tells f a seat) (meet_turn limits f a seat)
  turn_hears (act.Editor n) brings acts = λ made is k theirs side news. absurd (none_told (is_some (own seat).waits) theirs side)
  turn_hears (act.Serve name) brings acts = λ made is k theirs side news. absurd (none_told (is_some (own seat).waits) theirs side)
  turn_hears a brings acts = by_wait a (own seat).waits brings acts

step_hears : (limits : Limits) (given : Given) (step : Step) (seat : Seat) → Here seat → IsTextMeeting seat.meeting → ActBringsTexts step.act → StepHearsMet limits given step seat
step_hears limits given step seat here texts acts = turn_hears limits (found_by limits given (own seat) step.act) seat here texts step.act (met_brings limits given (own seat) step.act) acts

-- the editor that makes each step is there
abbrev IsHere : Step × Given × Seat → Type 0
IsHere at = at.2.editor < length at.2.meeting.editors

-- The first of the steps.
seats_hear : (limits : Limits) (n : ℕ) (given : List Given) (steps : List Step) (seat : Seat) → StepsBringTexts steps → IsTextMeeting seat.meeting → All IsHere (take n (seats_before limits given steps seat)) → AreHeardMet limits (take n (seats_before limits given steps seat))
seats_hear limits zero given steps seat i h here = All-nil (λ (at : Step × Given × Seat). StepHearsMet limits at.1 at.0 at.2)
seats_hear limits (suc n) given [] seat i h here = All-nil (λ (at : Step × Given × Seat). StepHearsMet limits at.1 at.0 at.2)
seats_hear limits (suc n) given (step ∷ steps) seat i h here =
    let got = first_given given in
    let next : Seat = (meet_step limits got step seat).seat in
    let behind = take n (seats_before limits (drop 1 given) steps next) in
    All-cons (λ (at : Step × Given × Seat). StepHearsMet limits at.1 at.0 at.2) (step, got, seat) behind
    (step_hears limits got step seat (record { within = All-head IsHere (step, got, seat) behind here }) h i.0)
    (seats_hear limits n (drop 1 given) steps next i.1 (seat_texts limits (found_by limits got (own seat) step.act) step.act seat (met_brings limits got (own seat) step.act) i.0 h) (All-tail IsHere (step, got, seat) behind here))

all_hear : (limits : Limits) (given : List Given) (steps : List Step) (seat : Seat) → StepsBringTexts steps → IsTextMeeting seat.meeting → All IsHere (seats_before limits given steps seat) → AreHeardMet limits (seats_before limits given steps seat)
all_hear limits given steps seat i h here =
    let all = seats_before limits given steps seat in
    let same = take_all (length all) all (omega arith) in
    subst (AreHeardMet limits) same (seats_hear limits (length all) given steps seat i h (subst (All IsHere) (sym same) here))

by_meeting : (limits : Limits) (given : List Given) (steps : List Step) (meets : Bool) → StepsBringTexts steps → AreMet limits (cond meets (met limits given steps) []) → AreHeardMet limits (cond meets (met limits given steps) [])
by_meeting limits given steps true brings are =
    all_hear limits given steps first_seat brings (meetings.first_texts 4)
    (All-weaker (λ (at : Step × Given × Seat). IsMet limits at.1 at.0 at.2) IsHere (λ at is. is.begun.here) (met limits given steps) are)
by_meeting limits given steps false brings are = All-nil (λ (at : Step × Given × Seat). StepHearsMet limits at.1 at.0 at.2)

first_by_meeting : (limits : Limits) (n : ℕ) (given : List Given) (steps : List Step) (meets : Bool) → StepsBringTexts steps → AreBegun limits (take n (cond meets (met limits given steps) [])) → AreHeardMet limits (take n (cond meets (met limits given steps) []))
first_by_meeting limits n given steps true brings are =
    seats_hear limits n given steps first_seat brings (meetings.first_texts 4)
    (All-weaker (λ (at : Step × Given × Seat). IsBegun limits at.1 at.0 at.2) IsHere (λ at is. is.here) (take n (met limits given steps)) are)
first_by_meeting limits n given steps false brings are = All-take (λ (at : Step × Given × Seat). StepHearsMet limits at.1 at.0 at.2) n [] (All-nil (λ (at : Step × Given × Seat). StepHearsMet limits at.1 at.0 at.2))

-- What others changed is heard at each step of a meeting whose editors are there,
pub met_heard_in : (limits : Limits) (given : List Given) (f : Fetched) → AreMet limits (session.meetings limits given (steps_in f)) → AreHeardMet limits (session.meetings limits given (steps_in f))
met_heard_in limits given f are = by_meeting limits given (steps_in f) (is_meeting (steps_in f)) (in_brings f) are

-- and at the first of them.
pub first_met_heard : (limits : Limits) (n : ℕ) (given : List Given) (f : Fetched) → AreBegun limits (take n (session.meetings limits given (steps_in f))) → AreHeardMet limits (take n (session.meetings limits given (steps_in f)))
first_met_heard limits n given f are = first_by_meeting limits n given (steps_in f) (is_meeting (steps_in f)) (in_brings f) are
