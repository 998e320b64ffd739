-- A meeting of which one editor has fetched or sent.
use Rattle.std.proofs.Common.{◌≡◌, ◌-◌, ℕ, Bool, is_some, List, [], ◌∷◌, length, map, reverse, take, get_or, slice_get, slice_set, Option, Some, None, Bor, Vec, Result, Ok, Err, IfSome, IfOk, OnOk, OnErr, refl, sym, ◌∙◌, ap, subst}
use Rattle.std.specs.List.{AllByRecursion}
use Rattle.std.specs.Option.{option_map}
use Rattle.std.specs.declared.dyn_box.DynBox.{DynBox}
use Rattle.std.specs.declared.alloc.Global.{Global}
use Rattle.std.proofs.lemmas.List.{length-reverse, map-set}
use Rattle.osm_base.specs.Tags.{Pair}
use Rattle.osm_base.specs.declared.area.Area.{Area}
use Rattle.osm_base.specs.declared.key.Key.{Key}
use Rattle.osm_table.specs.Table.{TableValue}
use Rattle.osm_table.specs.Told.{ToldValue}
use Rattle.opl_line.specs.declared.object.OplObject.{OplObject}
use Rattle.dataset.specs.Patch.{PatchValue}
use Rattle.download.specs.Filter.{filtered}
use Rattle.download.specs.Tell.{AreTellable}
use Rattle.tool_api.specs.declared.job.Job.{Job}
use Rattle.tool_api.specs.declared.job.Job.TheVariants as job
use Rattle.tool_api.specs.declared.verb.Verb.{Verb}
use Rattle.edit_history.specs.declared.edit_step.EditStep.TheVariants.{Run}
use Rattle.edit_history.specs.Shown.{shown, verbs_of}
use Rattle.edit_history.specs.Moved.{MayRun}
use Rattle.edit_history.specs.Steps.{job_move}
use Rattle.upload_order.specs.declared.change.Change.{Change}
use Rattle.upload_order.specs.Refused.{upload}
use Rattle.upload_order.proofs.Basics.{both}
use Rattle.upload_order.specs.World.{World}
use Rattle.server_world.specs.Codes.{Objects}
use Rattle.upload_order.specs.declared.world.WorldRefusal.{WorldRefusal}
use Rattle.many_editors.specs.declared.act.MeetAct.TheVariants as act
use Rattle.many_editors.specs.declared.editor.Editor.{Editor}
use Rattle.many_editors.specs.declared.editor.Waiting.{Waiting}
use Rattle.many_editors.specs.declared.log.Before.{Before}
use Rattle.many_editors.specs.declared.meeting.Meeting.{Meeting}
use Rattle.many_editors.specs.declared.reply.MeetReply.{MeetReply}
use Rattle.many_editors.specs.declared.reply.MeetReply.TheVariants as reply
use Rattle.many_editors.specs.declared.reply.MeetRefusal.TheVariants as refusal
use Rattle.many_editors.specs.Acts.{Met, changes_met, fetch_met, lifted, met_of, refused, send_met}
use Rattle.many_editors.specs.Earlier.{states_before}
use Rattle.many_editors.specs.Left.{changes_sent, first_planned}
use Rattle.many_editors.specs.Parts.{changes_at, fetched, sent_at, IsAt, MayFetch}
use Rattle.many_editors.specs.declared.sending.Outcome.{Outcome}
use Rattle.many_editors.specs.Logged.{earlier_by, sent_by, HasTaken, IsOutcome, IsSent}
use Rattle.many_editors.specs.Meeting as seen
use Rattle.many_editors.specs.Meeting.{states, waiting_for, IfEditor}
use Rattle.many_editors.specs.Own.{own_fetch, own_no_state, own_step, IsAtWork, MayOwnStep}
use Rattle.many_editors.specs.Sending.{version_end, TookFirst}
use Rattle.many_editors.specs.Serving.{told_objects}
use Rattle.many_editors.specs.Shown.{shown_editor, shown_meeting, verbs_met, AreValid, ComesOf, FitsEditor, LeftMeeting, MovedEditor, ValidEditor}
use Rattle.many_editors.specs.States.{IsServer}
use Rattle.many_editors.proofs.Fetching.{state_tellable}
use Rattle.many_editors.proofs.Laying.{length_before}
use Rattle.many_editors.proofs.Lifting.{all_at, all_set, fits_at, kept_left, lifts, map_same, sends_as, shown_at, with_set}

told_some : (o : Option Objects) (objects : List OplObject) → Some objects ≡ option_map told_objects o → (m : Objects) × (o ≡ Some m) × (objects ≡ told_objects m)
told_some None objects e = cc
told_some (Some m) objects e = (m, refl, cc)

told_none : (o : Option Objects) → None ≡ option_map told_objects o → o ≡ None
told_none None e = refl
told_none (Some m) e = cc

-- the table of the editor, read at another time
pub same_table : {X : Type 0} {F : X → Type 0} (m : Meeting X F) (n : ℕ) (x y : Editor X F) (t : TableValue) → slice_get m.editors.items n ≡ Some x → slice_get m.editors.items n ≡ Some y → t ≡ y.history.jobs.ds → t ≡ x.history.jobs.ds
same_table {X} {F} m n x y t at here is = is ∙ ap (λ (e : Editor X F). e.history.jobs.ds) (both y x (slice_get m.editors.items n) here at)

-- what was sent of changes that were lent
pub first_sent : {X : Type 0} {F : X → Type 0} (t : TableValue) (old : Meeting X F) (came : Outcome) (w : World) (log : Vec Before Global) (lent first : List Change) → lent ≡ first → IsOutcome t lent old.world old.log w log came → IsOutcome t first old.world old.log w log came
first_sent t old came w log lent first same sent = subst (λ cs. IsOutcome t cs old.world old.log w log came) same sent

pub taken_first : {X : Type 0} {F : X → Type 0} (t : TableValue) (old : Meeting X F) (w : World) (log : Vec Before Global) (lent first : List Change) → lent ≡ first → HasTaken t lent old.world old.log w log → HasTaken t first old.world old.log w log
taken_first t old w log lent first same took = subst (λ cs. HasTaken t cs old.world old.log w log) same took

-- whether it waits, read at another time
pub same_test : {X : Type 0} {F : X → Type 0} (m : Meeting X F) (n : ℕ) (x y : Editor X F) (b : Bool) → slice_get m.editors.items n ≡ Some x → slice_get m.editors.items n ≡ Some y → is_some x.waiting ≡ b → is_some y.waiting ≡ b
same_test {X} {F} m n x y b at here is = subst (λ (e : Editor X F). is_some e.waiting ≡ b) (both x y (slice_get m.editors.items n) at here) is

-- what is fetched of a log that was lent
pub told_back : (w : Objects) (log lent : List Before) (back : ℕ) (o : Option (List OplObject)) → lent ≡ log → o ≡ option_map told_objects (slice_get (w ∷ states_before w (reverse lent)) back) → o ≡ option_map told_objects (slice_get (w ∷ states_before w (reverse log)) back)
told_back w log lent back o same is = is ∙ ap (λ bs. option_map told_objects (slice_get (w ∷ states_before w (reverse bs)) back)) same

pub back_tellable : (ms : List Objects) (back : ℕ) (objects : List OplObject) → AllByRecursion IsServer ms → Some objects ≡ option_map told_objects (slice_get ms back) → AreTellable objects
back_tellable ms back objects servers is =
    let m = told_some _ objects is in
    subst AreTellable (sym m.2) (state_tellable m.0 (all_at IsServer ms back m.0 servers m.1).served)

module _ {X : Type 0} {F : X → Type 0} (done undone : DynBox X Global F → List PatchValue) where
  module _ (old : Meeting X F) (n : ℕ) (x : Editor X F) (at : slice_get old.editors.items n ≡ Some x) where
    -- the editor is at the plan's table
    pub is_planned : (changes : List Change) (t : TableValue) → t ≡ (shown done undone x.history).now → upload t ≡ Ok changes → IfEditor n (shown_meeting done undone old) (λ e. upload e.state.now ≡ Ok changes)
    is_planned changes t table plan = subst (λ o. IfSome o (λ (e : seen.Editor). upload e.state.now ≡ Ok changes)) (sym (shown_at done undone old n x at)) (ap upload (sym table) ∙ plan)

    pub plan_here : (changes : List Change) → IfEditor n (shown_meeting done undone old) (λ e. upload e.state.now ≡ Ok changes) → upload (shown done undone x.history).now ≡ Ok changes
    plan_here changes plan = subst (λ o. IfSome o (λ (e : seen.Editor). upload e.state.now ≡ Ok changes)) (shown_at done undone old n x at) plan

    module _ (count : ℕ) (t : TableValue) (table : t ≡ (shown done undone x.history).now) (changes : List Change) (plan : upload t ≡ Ok changes) where
      pub sends : sent_at n count (shown_meeting done undone old) ≡ changes_met n (take count changes) (shown done undone x.history) (version_end (take count changes)) (shown_meeting done undone old)
      sends =
          let m = shown_meeting done undone old in
          let s = shown done undone x.history in
          ap (λ o. met_of (λ e. send_met n count e.state (upload e.state.now)) o m) (shown_at done undone old n x at) ∙ ap (λ r. send_met n count s r m) (sym (ap upload table) ∙ plan)

module _ {X : Type 0} {F : X → Type 0} (done undone : DynBox X Global F → List PatchValue) (kind : DynBox X Global F → Verb) where
  -- what comes of one definition comes of another that does the same
  pub comes_as : {E : Type 0} (old new : Meeting X F) (result : Result MeetReply E) (part other : seen.Meeting → Met) → part (shown_meeting done undone old) ≡ other (shown_meeting done undone old) → ComesOf done undone kind old new result part → ComesOf done undone kind old new result other
  comes_as old new result part other same comes = record {
    histories = comes.histories;
    verbs = comes.verbs;
    reply = subst (λ (met : Met). IfOk result (λ reply. reply ≡ met.reply)) same comes.reply;
    meeting = subst (λ (met : Met). OnOk result (shown_meeting done undone new ≡ met.meeting)) same comes.meeting;
  }

  module _ (old : Meeting X F) (n : ℕ) (x : Editor X F) (at : slice_get old.editors.items n ≡ Some x) where
    -- A fetch.

    pub fetch_fits : AreValid done undone old → IsAt n MayFetch (shown_meeting done undone old) (verbs_met kind old) → FitsEditor done undone kind x IsAtWork
    fetch_fits valid fits = fits_at done undone kind old n x IsAtWork at valid (record { there = fits.there; asked = λ e h. (fits.asked e h).work })

    pub merge_fits : (told : ToldValue) (b : Bor Job) → b.now ≡ job.Merge told → AreValid done undone old → IsAt n MayFetch (shown_meeting done undone old) (verbs_met kind old) → FitsEditor done undone kind x (MayOwnStep (Run b))
    merge_fits told b is valid fits = fits_at done undone kind old n x (MayOwnStep (Run b)) at valid (record {
      there = fits.there;
      asked = λ e h. record {
        work = (fits.asked e h).work;
        may = subst (λ (j : Job). MayRun j e.state (get_or (verbs_met kind old) n [])) (sym is) (record { there = (fits.asked e h).merge.there; formed = tt; unrefused = (fits.asked e h).merge.unrefused });
      };
    })

    fetch_at : (limit : ℕ) (area : Option Area) (wanted : Option (List Pair)) (o : Option Objects)
        → lifted n (own_fetch limit area wanted (length (shown_meeting done undone old).earlier) o) (shown_editor done undone x) (shown_meeting done undone old) ≡ fetch_met limit n area wanted (shown done undone x.history) o (shown_meeting done undone old)
    fetch_at limit area wanted None = refl
    fetch_at limit area wanted (Some objects) = refl

    fetch_is : (limit back : ℕ) (area : Option Area) (wanted : Option (List Pair)) (o : Option Objects) → slice_get (states (shown_meeting done undone old)) back ≡ o
        → lifted n (own_fetch limit area wanted (length (shown_meeting done undone old).earlier) o) (shown_editor done undone x) (shown_meeting done undone old) ≡ fetched limit n back area wanted (shown_meeting done undone old)
    fetch_is limit back area wanted o is =
        let m = shown_meeting done undone old in
        fetch_at limit area wanted o
        ∙ ap (λ p. fetch_met limit n area wanted (shown done undone x.history) p m) (sym is)
        ∙ ap (λ p. met_of (λ e. fetch_met limit n area wanted e.state (slice_get (states m) back)) p m) (sym (shown_at done undone old n x at))

    pub no_state_comes : {E : Type 0} (new : Meeting X F) (result : Result MeetReply E) (w : Editor X F) (count limit back : ℕ) (area : Option Area) (wanted : Option (List Pair))
        → new.editors.items ≡ slice_set old.editors.items n w → new.world ≡ old.world → new.log.items ≡ old.log.items → AreValid done undone old
        → count ≡ length old.log.items → None ≡ option_map told_objects (slice_get (states (shown_meeting done undone old)) back) → MovedEditor done undone kind x w result (own_no_state count)
        → ComesOf done undone kind old new result (fetched limit n back area wanted)
    no_state_comes new result w count limit back area wanted editors world log valid counted none moved =
        let m = shown_meeting done undone old in
        let e = shown_editor done undone x in
        let same : count ≡ length m.earlier = counted ∙ sym (length_before old.world.entries (reverse old.log.items) ∙ length-reverse old.log.items) in
        comes_as old new result (lifted n (own_no_state count) e) (fetched limit n back area wanted)
        (ap (λ k. lifted n (own_no_state k) e m) same ∙ fetch_is limit back area wanted None (told_none _ none))
        (lifts done undone kind old new result n x w (own_no_state count) at editors world log valid moved)

    pub fetch_comes : {E : Type 0} (new : Meeting X F) (result : Result MeetReply E) (w : Editor X F) (limit back : ℕ) (area : Option Area) (wanted : Option (List Pair)) (objects : List OplObject) (told : ToldValue)
        → new.editors.items ≡ slice_set old.editors.items n w → new.world ≡ old.world → new.log.items ≡ old.log.items → AreValid done undone old
        → Some objects ≡ option_map told_objects (slice_get (states (shown_meeting done undone old)) back) → told ≡ filtered objects area wanted → MovedEditor done undone kind x w result (own_step (job_move limit (job.Merge told)))
        → ComesOf done undone kind old new result (fetched limit n back area wanted)
    fetch_comes new result w limit back area wanted objects told editors world log valid is tells moved =
        let m = shown_meeting done undone old in
        let e = shown_editor done undone x in
        let state = told_some _ objects is in
        comes_as old new result (lifted n (own_step (job_move limit (job.Merge told))) e) (fetched limit n back area wanted)
        (ap (λ t. lifted n (own_step (job_move limit (job.Merge t))) e m) (tells ∙ ap (λ os. filtered os area wanted) state.2) ∙ fetch_is limit back area wanted (Some state.0) state.1)
        (lifts done undone kind old new result n x w (own_step (job_move limit (job.Merge told))) at editors world log valid moved)

    -- A send.

    pub send_comes : {E : Type 0} (new : Meeting X F) (changes : List Change) (waiting : Waiting) (accepted : ℕ) (why : Option WorldRefusal) (t : TableValue)
        → new.editors.items ≡ slice_set old.editors.items n (record { history = x.history; waiting = Some waiting }) → AreValid done undone old → accepted ≡ length waiting.answers.items → t ≡ (shown done undone x.history).now
        → IfEditor n (shown_meeting done undone old) (λ e. upload e.state.now ≡ Ok waiting.plan)
        → IsSent t changes old.world old.log.items new.world new.log.items waiting.answers.items why → ComesOf {E = E} done undone kind old new (Ok (reply.Sent accepted why)) (changes_at n changes)
    send_comes new changes waiting accepted why t editors valid counted table plan sent =
        let m = shown_meeting done undone old in
        let e = shown_editor done undone x in
        let w : Editor X F = record { history = x.history; waiting = Some waiting } in
        let is = subst (λ (u : TableValue). IsSent u changes old.world old.log.items new.world new.log.items waiting.answers.items why) table sent in
        let s = sent_by e.state.now changes old.world old.log.items in
        let shows = shown_at done undone old n x at in
        let same : changes_met n changes e.state None m ≡ changes_at n changes m = ap (λ o. met_of (λ e. changes_met n changes e.state None) o m) (sym shows) in
        let waits : ValidEditor done undone w = record { history = (all_at (ValidEditor done undone) old.editors.items n x valid at).history; plan = plan_here done undone old n x at waiting.plan plan } in
        record {
          histories = subst (AllByRecursion (ValidEditor done undone)) (sym editors) (all_set (ValidEditor done undone) old.editors.items n w valid waits);
          verbs = ap (map (λ e. verbs_of kind e.history)) editors ∙ map_same (λ e. verbs_of kind e.history) old.editors.items n x w at refl;
          reply = (λ i. reply.Sent ((counted ∙ ap length is.answers) i) (is.refused i)) ∙ ap (λ (met : Met). met.reply) same;
          meeting = (λ i. record {
            world = is.world i;
            earlier = is.earlier i;
            editors = (ap (map (shown_editor done undone)) editors ∙ map-set (shown_editor done undone) old.editors.items n w
                ∙ with_set (waiting_for s.answers) m.editors n e (shown_editor done undone w) shows (λ j. record { state = e.state; waits = Some (is.answers j) })) i;
          }) ∙ ap (λ (met : Met). met.meeting) same;
        }

    -- no memory was left at a change
    pub send_left : (new : Meeting X F) (changes : List Change) (t : TableValue) → new.editors.items ≡ old.editors.items → AreValid done undone old → t ≡ (shown done undone x.history).now
        → (k : ℕ) × TookFirst k t changes old.world (earlier_by old.world old.log.items) new.world (earlier_by new.world new.log.items) → LeftMeeting done undone kind n (λ _. changes) old new
    send_left new changes t editors valid table took = kept_left done undone kind old new n (λ _. changes) editors valid (λ e h.
        (took.0, subst (λ u. TookFirst took.0 u changes old.world (earlier_by old.world old.log.items) new.world (earlier_by new.world new.log.items)) (table ∙ ap (λ (f : seen.Editor). f.state.now) (both (shown_editor done undone x) e _ (shown_at done undone old n x at) h)) took.1))

    module _ (count : ℕ) (t : TableValue) (table : t ≡ (shown done undone x.history).now) (changes : List Change) (plan : upload t ≡ Ok changes) where
      -- one change is of the last version
      pub end_comes : {E : Type 0} (new : Meeting X F) (k : Key) → new.editors.items ≡ old.editors.items → new.world ≡ old.world → new.log.items ≡ old.log.items → AreValid done undone old → version_end (take count changes) ≡ Some k
          → ComesOf {E = E} done undone kind old new (Ok (reply.Refused (refusal.VersionEnd k))) (sent_at n count)
      end_comes new k editors world log valid end =
          let m = shown_meeting done undone old in
          let same : sent_at n count m ≡ refused (refusal.VersionEnd k) m = sends done undone old n x at count t table changes plan ∙ ap (λ o. changes_met n (take count changes) (shown done undone x.history) o m) end in
          record {
            histories = subst (AllByRecursion (ValidEditor done undone)) (sym editors) valid;
            verbs = ap (map (λ e. verbs_of kind e.history)) editors;
            reply = ap (λ (met : Met). met.reply) (sym same);
            meeting = (λ i. record { world = world i; earlier = states_before (world i).entries (reverse (log i)); editors = map (shown_editor done undone) (editors i) }) ∙ ap (λ (met : Met). met.meeting) (sym same);
          }

      -- none is
      pub goes_out : {E : Type 0} (new : Meeting X F) (result : Result MeetReply E) → version_end (take count changes) ≡ None → ComesOf done undone kind old new result (changes_at n (take count changes)) → ComesOf done undone kind old new result (sent_at n count)
      goes_out new result none comes =
          let m = shown_meeting done undone old in
          let s = shown done undone x.history in
          comes_as old new result (changes_at n (take count changes)) (sent_at n count)
          (ap (λ o. met_of (λ e. changes_met n (take count changes) e.state None) o m) (shown_at done undone old n x at) ∙ ap (λ o. changes_met n (take count changes) s o m) (sym none) ∙ sym (sends done undone old n x at count t table changes plan))
          comes

      -- or no memory was left
      plan_at : (e : seen.Editor) → slice_get (shown_meeting done undone old).editors n ≡ Some e → upload e.state.now ≡ Ok changes
      plan_at e h = ap (λ (f : seen.Editor). upload f.state.now) (sym (both (shown_editor done undone x) e _ (shown_at done undone old n x at) h)) ∙ ap upload (sym table) ∙ plan

      pub out_left : {E : Type 0} (new : Meeting X F) (result : Result MeetReply E) → OnErr result (LeftMeeting done undone kind n (λ _. take count changes) old new) → OnErr result (LeftMeeting done undone kind n (changes_sent (act.Send count)) old new)
      out_left new result = sends_as done undone kind old new result n (λ _. take count changes) (changes_sent (act.Send count)) (λ e h. ap (first_planned count) (sym (plan_at e h)))
