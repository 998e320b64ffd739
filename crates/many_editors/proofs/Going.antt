-- A step of a meeting by the part that does it.
use Rattle.std.proofs.Common.{◌≡◌, ℕ, true, false, List, [], get_or, is_some, slice_get, slice_set, Option, Some, None, Result, Ok, Err, IfOk, OnOk, refl, sym, ◌∙◌, ap, subst}
use Rattle.std.specs.Option.{option_map, option_map_or}
use Rattle.std.specs.declared.dyn_box.DynBox.{DynBox}
use Rattle.std.specs.declared.alloc.Global.{Global}
use Rattle.std.proofs.lemmas.Result.{IfOk-weaker}
use Rattle.osm_base.specs.declared.area.Area.{Area}
use Rattle.osm_base.proofs.Tests.{none_from_test, some_from_test}
use Rattle.dataset.specs.Patch.{PatchValue}
use Rattle.dataset.specs.Sound.{IsSound}
use Rattle.tool_api.specs.declared.verb.Verb.{Verb}
use Rattle.edit_history.specs.declared.edit_step.EditStep.{EditStep}
use Rattle.edit_history.specs.Shown.{shown}
use Rattle.edit_history.specs.Steps.{edited}
use Rattle.upload_order.specs.Refused.{upload}
use Rattle.upload_order.proofs.Basics.{both, none_some}
use Rattle.placeholder.specs.declared.answer.Answer.{Answer}
use Rattle.many_editors.specs.declared.act.MeetAct.{MeetAct}
use Rattle.many_editors.specs.declared.act.MeetAct.TheVariants as act
use Rattle.many_editors.specs.declared.editor.Editor.{Editor}
use Rattle.many_editors.specs.declared.editor.Waiting.{Waiting}
use Rattle.many_editors.specs.declared.meeting.Meeting.{Meeting}
use Rattle.many_editors.specs.declared.reply.MeetReply.{MeetReply}
use Rattle.many_editors.specs.declared.reply.MeetReply.TheVariants.{Refused}
use Rattle.many_editors.specs.declared.reply.MeetRefusal.TheVariants.{NotWaiting}
use Rattle.many_editors.specs.Acts.{Met, fetch_met, lifted, met, met_by, met_of, refused, send_met}
use Rattle.many_editors.specs.Asked.{MayAct, MayTry, MayWork, IsSeen, NeverClashes}
use Rattle.many_editors.specs.Meeting as seen
use Rattle.many_editors.specs.Meeting.{states}
use Rattle.many_editors.specs.Own.{kept, own_step, own_wait, own_waiting, IsTaken, IsWaiting, MayOwnStep, MayTake}
use Rattle.many_editors.specs.Parts.{fetched, sent_at, IsAt, MayFetch, MaySend}
use Rattle.many_editors.specs.Shown.{shown_editor, shown_meeting, verbs_met, ComesOf, FitsEditor, FitsMeeting, MovedEditor, MovedMeeting, ValidMeeting}
use Rattle.many_editors.specs.Laws.{AllKeysStand, HasSoundTable}
use Rattle.many_editors.specs.Sound.{IsSoundMeeting, KeepsSound, MayWait}
use Rattle.many_editors.proofs.Acting.{keys_stand, met_sound}
use Rattle.many_editors.proofs.Lifting.{always, fits_at, lifts, moved_alike, shown_at}
use Rattle.many_editors.proofs.Replying.{met_calm}
use Rattle.many_editors.proofs.Waiting.{here, sent_finds}

-- what a send changes is as the table has it
pub all_seen : (n : ℕ) (a : MeetAct) (m : seen.Meeting) → IsSoundMeeting m → HasSoundTable n m → IsSeen n a m
all_seen n (act.Send count) m sound tables = λ e changes at up. sent_finds m sound n e at changes count (tables e at) up
all_seen n (act.Fetch back area wanted) m sound tables = tt
all_seen n (act.Own step) m sound tables = tt
all_seen n act.Answer m sound tables = tt
all_seen n act.Lost m sound tables = tt

-- in a meeting that is valid after a step each positive key of a table stands in the world
pub step_keys : {X : Type 0} {F : X → Type 0} {E : Type 0} (done undone : DynBox X Global F → List PatchValue) (new : Meeting X F) (result : Result MeetReply E) → OnOk result (ValidMeeting done undone new) → OnOk result (AllKeysStand (shown_meeting done undone new))
step_keys done undone new (Ok reply) valid = keys_stand (shown_meeting done undone new) valid.sound
step_keys done undone new (Err why) valid = tt

-- The whole act by the part that did it.
module _ {X : Type 0} {F : X → Type 0} (done undone : DynBox X Global F → List PatchValue) (kind : DynBox X Global F → Verb) where
  pub moved_by : {E : Type 0} (old new : Meeting X F) (result : Result MeetReply E) (move part : seen.Meeting → Met) → ComesOf done undone kind old new result part → move (shown_meeting done undone old) ≡ part (shown_meeting done undone old)
      → OnOk result (IsSoundMeeting (move (shown_meeting done undone old)).meeting) → MovedMeeting done undone kind old new result move
  moved_by old new (Ok answer) move part comes same sound =
      let meets = comes.meeting ∙ ap (λ (x : Met). x.meeting) (sym same) in
      record {
        valid = record { histories = comes.histories; sound = subst IsSoundMeeting (sym meets) sound };
        verbs = comes.verbs;
        reply = comes.reply ∙ ap (λ (x : Met). x.reply) (sym same);
        meeting = meets;
      }
  moved_by old new (Err why) move part comes same sound = record { valid = tt; verbs = tt; reply = tt; meeting = tt }

-- An act of the n-th editor.
module _ {X : Type 0} {F : X → Type 0} (done undone : DynBox X Global F → List PatchValue) (kind : DynBox X Global F → Verb) (old : Meeting X F) (n : ℕ) (a : MeetAct) (x : Editor X F) (at : slice_get old.editors.items n ≡ Some x) (fits : FitsMeeting done undone kind old (MayAct n a)) where
  abbrev pub m : seen.Meeting
  m = shown_meeting done undone old

  abbrev pub e : seen.Editor
  e = shown_editor done undone x

  shows : slice_get m.editors n ≡ Some e
  shows = shown_at done undone old n x at

  is_it : (f : seen.Editor) → slice_get m.editors n ≡ Some f → e ≡ f
  is_it f h = both e f _ shows h

  -- what holds of it is asked of the n-th editor
  asked_at : (asks : seen.Editor → List Verb → Type 0) → asks e (get_or (verbs_met kind old) n []) → IsAt n asks m (verbs_met kind old)
  asked_at asks holds = record { there = fits.asked.there; asked = λ f h. subst (λ (g : seen.Editor). asks g (get_or (verbs_met kind old) n [])) (is_it f h) holds }

  fits_it : (asks : seen.Editor → List Verb → Type 0) → asks e (get_or (verbs_met kind old) n []) → FitsEditor done undone kind x asks
  fits_it asks holds = fits_at done undone kind old n x asks at fits.valid.histories (asked_at asks holds)

  met_here : (limit : ℕ) (o : Option (List Answer)) → e.waits ≡ o → met limit n a m ≡ met_by limit n a e o m
  met_here limit o w = ap (λ p. met_of (λ f. met_by limit n a f f.waits) p m) shows ∙ ap (λ p. met_by limit n a e p m) w

  -- An editor that waits.
  module _ (some : is_some x.waiting ≡ true) where
    abbrev answers : List Answer
    answers = (some_from_test x.waiting some).0.answers.items

    waits : e.waits ≡ Some answers
    waits = ap (λ (o : Option Waiting). option_map (λ (w : Waiting). w.answers.items) o) (some_from_test x.waiting some).1

    pub waiting_fits : FitsEditor done undone kind x IsWaiting
    waiting_fits =
        let may = subst (MayWait (states m) e.state) waits (here m fits.valid.sound n e shows).waits in
        fits_it IsWaiting (subst (λ o. MayTake o e.state) (sym waits) (record { outside = may.0; taken = subst IsTaken (sym may.1.confirmed) tt }))

  -- One at work.
  module _ (idle : is_some x.waiting ≡ false) where
    works : e.waits ≡ None
    works = ap (λ (o : Option Waiting). option_map (λ (w : Waiting). w.answers.items) o) (none_from_test x.waiting idle)

    may_work : MayWork a e.state (get_or (verbs_met kind old) n [])
    may_work = subst (MayTry a e (get_or (verbs_met kind old) n [])) works (fits.asked.asked e shows)

    work_as : (b : MeetAct) → a ≡ b → MayWork b e.state (get_or (verbs_met kind old) n [])
    work_as b is = subst (λ c. MayWork c e.state (get_or (verbs_met kind old) n [])) is may_work

    pub own_fits : (step : EditStep) → a ≡ act.Own step → FitsEditor done undone kind x (MayOwnStep step)
    own_fits step is = fits_it (MayOwnStep step) (record { work = works; may = (work_as (act.Own step) is).may })

    pub fetch_asked : (back : ℕ) (area : Option Area) (wanted : _) → a ≡ act.Fetch back area wanted → IsAt n MayFetch m (verbs_met kind old)
    fetch_asked back area wanted is = asked_at MayFetch (record { work = works; merge = work_as (act.Fetch back area wanted) is })

    pub send_asked : (count : ℕ) → a ≡ act.Send count → IsAt n MaySend m (verbs_met kind old)
    send_asked count is = asked_at MaySend (record { work = works; outside = work_as (act.Send count) is })

  module _ (t : _) (table : t ≡ (shown done undone x.history).now) (sound : IsSound t) where
    tables : HasSoundTable n m
    tables f h = subst (λ (g : seen.Editor). IsSound g.state.now) (is_it f h) (subst IsSound table sound)

    pub step_seen : IsSeen n a m
    step_seen = all_seen n a m fits.valid.sound tables

    pub step_clash : {E : Type 0} (limit : ℕ) (new : Meeting X F) (result : Result MeetReply E) → MovedMeeting done undone kind old new result (met limit n a) → IfOk result (NeverClashes a)
    step_clash limit new result moved =
        IfOk-weaker result (λ r. r ≡ (met limit n a m).reply) (NeverClashes a) (λ r is. subst (NeverClashes a) (sym is) (met_calm m fits.valid.sound limit n a)) moved.reply

    stays : (limit : ℕ) → (e.waits ≡ None → KeepsSound a e.state) → IsSoundMeeting (met limit n a m).meeting
    stays limit keeps =
        met_sound limit n a m fits.valid.sound
        (record { table = tables; keeps = λ f h waits. subst (λ (g : seen.Editor). KeepsSound a g.state) (is_it f h) (keeps (ap (λ (g : seen.Editor). g.waits) (is_it f h) ∙ waits)) })

    stays_as : (limit : ℕ) (b : MeetAct) → a ≡ b → KeepsSound b e.state → IsSoundMeeting (met limit n a m).meeting
    stays_as limit b is keeps = stays limit (λ none. subst (λ c. KeepsSound c e.state) (sym is) keeps)

    module _ {E : Type 0} (limit : ℕ) (new : Meeting X F) (result : Result MeetReply E) where
      -- the editor moved alone
      module _ (w : Editor X F) (editors : new.editors.items ≡ slice_set old.editors.items n w) (world : new.world ≡ old.world) (log : new.log.items ≡ old.log.items) where
        pub waiting_moved : is_some x.waiting ≡ true → MovedEditor done undone kind x w result (own_waiting a) → MovedMeeting done undone kind old new result (met limit n a)
        waiting_moved some moved =
            let does = own_wait a (answers some) in
            let alike = moved_alike done undone kind x w result (own_waiting a) does (ap (λ o. option_map_or (λ given. own_wait a given e) o (kept NotWaiting e)) (waits some)) moved in
            moved_by done undone kind old new result (met limit n a) (lifted n does e) (lifts done undone kind old new result n x w does at editors world log fits.valid.histories alike) (met_here limit (Some (answers some)) (waits some))
            (always result _ (stays limit (λ none. none_some (answers some) e.waits none (waits some))))

        pub own_moved : is_some x.waiting ≡ false → (step : EditStep) → a ≡ act.Own step → MovedEditor done undone kind x w result (own_step (edited limit step)) → MovedMeeting done undone kind old new result (met limit n a)
        own_moved idle step is moved =
            let does = own_step (edited limit step) in
            moved_by done undone kind old new result (met limit n a) (lifted n does e) (lifts done undone kind old new result n x w does at editors world log fits.valid.histories moved)
            (met_here limit None (works idle) ∙ ap (λ b. met_by limit n b e None m) is) (always result _ (stays_as limit (act.Own step) is (work_as idle (act.Own step) is).edits))

      pub fetch_moved : is_some x.waiting ≡ false → (back : ℕ) (area : Option Area) (wanted : _) → a ≡ act.Fetch back area wanted
          → ComesOf done undone kind old new result (fetched limit n back area (option_map (λ tags. tags.now) wanted)) → MovedMeeting done undone kind old new result (met limit n a)
      fetch_moved idle back area wanted is comes =
          let part = fetched limit n back area (option_map (λ tags. tags.now) wanted) in
          moved_by done undone kind old new result (met limit n a) part comes
          (met_here limit None (works idle) ∙ ap (λ b. met_by limit n b e None m) is ∙ ap (λ p. met_of (λ f. fetch_met limit n area (option_map (λ tags. tags.now) wanted) f.state (slice_get (states m) back)) p m) (sym shows))
          (always result _ (stays_as limit (act.Fetch back area wanted) is tt))

      pub send_moved : is_some x.waiting ≡ false → (count : ℕ) → a ≡ act.Send count → ComesOf done undone kind old new result (sent_at n count) → MovedMeeting done undone kind old new result (met limit n a)
      send_moved idle count is comes =
          moved_by done undone kind old new result (met limit n a) (sent_at n count) comes
          (met_here limit None (works idle) ∙ ap (λ b. met_by limit n b e None m) is ∙ ap (λ p. met_of (λ f. send_met n count f.state (upload f.state.now)) p m) (sym shows))
          (always result _ (stays_as limit (act.Send count) is (work_as idle (act.Send count) is)))

  -- no answer is to come
  pub none_waits : {E : Type 0} (limit : ℕ) (b : MeetAct) → is_some x.waiting ≡ false → a ≡ b → met_by limit n b e None m ≡ refused NotWaiting m → MovedMeeting {E = E} done undone kind old old (Ok (Refused NotWaiting)) (met limit n a)
  none_waits limit b idle is refuses =
      let same : met limit n a m ≡ refused NotWaiting m = met_here limit None (works idle) ∙ ap (λ c. met_by limit n c e None m) is ∙ refuses in
      record { valid = fits.valid; verbs = refl; reply = ap (λ (o : Met). o.reply) (sym same); meeting = ap (λ (o : Met). o.meeting) (sym same) }
