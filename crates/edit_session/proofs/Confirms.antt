-- The upload goes on from what a confirmation makes.
use Rattle.std.proofs.Common.{◌≡◌, ◌≤◌, ℕ, ℤ, Bool, true, false, if◌then◌else◌, nat_le, List, [], ◌∷◌, length, Option, None, Some, Ok, refl, sym, ap, ◌∙◌, subst, arith}
use Rattle.std.proofs.lemmas.Bool.Decides.{nat_tests}
use Rattle.std.proofs.lemmas.List.Elements.{All-nil, All-cons}
use Rattle.command_line.specs.Words.{CommandLineValue}
use Rattle.dataset.specs.Diff.{diff}
use Rattle.dataset.specs.Patch.{after_of}
use Rattle.upload_order.specs.declared.change.Change.{Change}
use Rattle.upload_order.specs.World.{World}
use Rattle.dataset.proofs.Differs.{diff_is}
use Rattle.dataset.proofs.Laws.{diff_leads}
use Rattle.placeholder.specs.Confirm.{answers_of}
use Rattle.placeholder.specs.Confirmed.{confirmed_all}
use Rattle.placeholder.specs.Laws.{FairAnswers}
use Rattle.placeholder.proofs.Accepts.{accepts_answers}
use Rattle.upload_order.proofs.ClearLaw.{upload_ok}
use Rattle.many_editors.specs.States.{IsFromStates}
use Rattle.many_editors.proofs.Sends.{AreTaken, IsGoodSend, plan_sent}
use Rattle.answer_file.specs.Answers.{confirm_text}
use Rattle.answer_file.specs.Resumed.{GoesOn, TellsAnswers}
use Rattle.answer_file.specs.Text.{text_of}
use Rattle.answer_file.proofs.Resumes.{answers_resumed, text_confirms}
use Rattle.answer_file.proofs.Told.{answers_told, text_makes}
use Rattle.edit_script.specs.declared.step.Act.TheVariants.{File}
use Rattle.edit_script.specs.declared.step.Purpose.TheVariants.{Confirm}
use Rattle.edit_script.specs.declared.step.Step.{Step}
use Rattle.edit_script.specs.declared.reply.StepReply.TheVariants.{Done}
use Rattle.edit_history.specs.Machine.{State, fresh}
use Rattle.edit_steps.specs.declared.files.Fetched.TheVariants.{TooLong, Whole}
use Rattle.edit_steps.specs.declared.limits.Limits.{Limits}
use Rattle.edit_steps.specs.declared.loading.Found.TheVariants as found
use Rattle.edit_session.specs.Confirms.{AreConfirmed, AreConfirmedBy, IsConfirmed, IsFromThen, IsTakenAs, TookSome, came_of}
use Rattle.edit_steps.specs.Fetch.{reading}
use Rattle.edit_steps.specs.Given.{Given}
use Rattle.edit_steps.specs.Groups.{is_given_up}
use Rattle.edit_steps.specs.Limits.{limits_of}
use Rattle.edit_steps.specs.Load.{bytes_found, found_in}
use Rattle.edit_steps.specs.Settled.{of_answers}
use Rattle.edit_steps.specs.Turn.{Turn, act_turn, done_turn, settled_turn, skipped_turn, step_turn, turn}
use Rattle.edit_session.specs.Uploads.{run_of}

module _ (limits : Limits) (given : Given) (step : Step) (name : List ℕ) (s : State) (is : step.act ≡ File name Confirm) (bytes : List ℕ) (there : given ≡ Some bytes) where
  -- what the step does, by two tests
  abbrev by_tests : Bool → Bool → Turn
  by_tests given_up fits = if given_up then skipped_turn (File name Confirm) s else act_turn limits (if given_up then found.Nothing else bytes_found (if fits then Whole bytes else TooLong)) (File name Confirm) s

  its_turn : (given_up fits : Bool) → is_given_up s.group ≡ given_up → nat_le (length bytes) limits.file ≡ fits → step_turn limits given step s ≡ by_tests given_up fits
  its_turn given_up fits group fit =
      ap (λ a. turn limits (found_in limits given s.group a) a s) is
      ∙ ap (λ (o : Option (List ℕ)). if is_given_up s.group then skipped_turn (File name Confirm) s else act_turn limits (if is_given_up s.group then found.Nothing else bytes_found (reading limits.file o)) (File name Confirm) s) there
      ∙ ap (λ b. by_tests b (nat_le (length bytes) limits.file)) group
      ∙ ap (by_tests given_up) fit

  module _ (a : FairAnswers s.now) (text : bytes ≡ text_of (answers_of a.changes a.ids)) where
    fair_makes : confirm_text s.now bytes ≡ Ok (diff s.now (confirmed_all s.now a.changes a.ids))
    fair_makes =
        ap (confirm_text s.now) text
        ∙ text_makes s.now (confirmed_all s.now a.changes a.ids) a.changes a.rest a.ids a.clear a.planned
        (answers_told s.now a.changes a.rest a.ids a.sound a.clear a.planned a.within)
        (accepts_answers s.now a.changes a.rest a.ids a.new a.within)

    fair_turn : by_tests false true ≡ done_turn (fresh (after_of (diff s.now (confirmed_all s.now a.changes a.ids)) s.now))
    fair_turn = ap (λ r. settled_turn (of_answers r) s) fair_makes

    fair_taken : length bytes ≤ limits.file → is_given_up s.group ≡ false → IsTakenAs (confirmed_all s.now a.changes a.ids) (step_turn limits given step s)
    fair_taken fits going =
        let fit : nat_le (length bytes) limits.file ≡ true = grind (arith, nat_tests, fits) in
        let turned = its_turn false true going fit ∙ fair_turn in
        let u = confirmed_all s.now a.changes a.ids in
        (ap (λ (t : Turn). t.answer.reply) turned, ap (λ (t : Turn). t.state.now) turned ∙ sym (diff_leads s.now u (diff s.now u) (diff_is s.now u)).to)

  -- a send of which a part may have been refused
  module _ (took : TookSome s.now bytes) where
    good : IsGoodSend (took.world.entries ∷ took.earlier) [] s.now took.changes (came_of took)
    good = plan_sent took.pick took.gives s.now took.changes took.count took.world took.earlier took.sound took.planned took.servers took.history took.from took.before_end

    abbrev fair : AreTaken [] s.now took.changes (came_of took) → FairAnswers s.now
    fair x = record {
      sound = took.sound;
      clear = (upload_ok s.now took.changes took.planned).0;
      changes = x.accepted;
      rest = x.left;
      ids = x.ids;
      planned = sym (upload_ok s.now took.changes took.planned).1 ∙ x.whole;
      new = x.new;
      within = x.within;
    }

    from_then : length bytes ≤ limits.file → is_given_up s.group ≡ false → IsFromThen (came_of took) (step_turn limits given step s)
    from_then fits going =
        let x = good.taken in
        let done = fair_taken (fair x) (took.text ∙ ap text_of x.answers) fits going in
        (done.0, subst (IsFromStates ((came_of took).world.entries ∷ (came_of took).earlier)) (sym done.1) x.from)

  module _ (w : World) (changes left : List Change) (ids : List ℤ) (tells : TellsAnswers w s.now changes left ids bytes) where
    makes : confirm_text s.now bytes ≡ Ok (diff s.now (confirmed_all s.now changes ids))
    makes = ap (confirm_text s.now) tells.text ∙ text_confirms w s.now changes left ids tells.answers

    confirms : by_tests false true ≡ done_turn (fresh (after_of (diff s.now (confirmed_all s.now changes ids)) s.now))
    confirms = ap (λ r. settled_turn (of_answers r) s) makes

    goes_on : GoesOn w changes left ids (after_of (diff s.now (confirmed_all s.now changes ids)) s.now)
    goes_on = answers_resumed w s.now changes left ids bytes (Ok (diff s.now (confirmed_all s.now changes ids))) tells makes

    its_reply : length bytes ≤ limits.file → is_given_up s.group ≡ false → (step_turn limits given step s).answer.reply ≡ Done []
    its_reply fits going =
        let fit : nat_le (length bytes) limits.file ≡ true = grind (arith, nat_tests, fits) in
        ap (λ (t : Turn). t.answer.reply) (its_turn false true going fit ∙ confirms)

    by_reply : (given_up fits : Bool) → is_given_up s.group ≡ given_up → nat_le (length bytes) limits.file ≡ fits → (step_turn limits given step s).answer.reply ≡ Done [] → GoesOn w changes left ids (step_turn limits given step s).state.now
    by_reply true fits group fit done =
        let never = sym (ap (λ (t : Turn). t.answer.reply) (its_turn true fits group fit)) ∙ done in absurd cc
    by_reply false false group fit done =
        let never = sym (ap (λ (t : Turn). t.answer.reply) (its_turn false false group fit)) ∙ done in absurd cc
    by_reply false true group fit done =
        subst (λ (t : Turn). GoesOn w changes left ids t.state.now) (sym (its_turn false true group fit ∙ confirms)) goes_on

is_confirmed : (limits : Limits) (given : Given) (step : Step) (name : List ℕ) (s : State) → step.act ≡ File name Confirm → IsConfirmed limits given step s
is_confirmed limits given step name s is = record {
  taken = λ bytes there fits going w changes left ids tells. its_reply limits given step name s is bytes there w changes left ids tells fits going;
  answered = λ bytes there fits going a text. fair_taken limits given step name s is bytes there a text fits going;
  refused = λ bytes there fits going took. from_then limits given step name s is bytes there took fits going;
  resumed = λ bytes there done w changes left ids tells. by_reply limits given step name s is bytes there w changes left ids tells (is_given_up s.group) (nat_le (length bytes) limits.file) refl refl done;
}

all_confirmed : (limits : Limits) (steps : List (Step × Given × State)) → AreConfirmed limits steps
all_confirmed limits [] = All-nil (λ (at : Step × Given × State). (name : List ℕ) → at.0.act ≡ File name Confirm → IsConfirmed limits at.1 at.0 at.2)
all_confirmed limits (at ∷ steps) =
    All-cons (λ (at : Step × Given × State). (name : List ℕ) → at.0.act ≡ File name Confirm → IsConfirmed limits at.1 at.0 at.2) at steps (λ name is. is_confirmed limits at.1 at.0 name at.2 is) (all_confirmed limits steps)

-- Whatever is asked for and given, each confirmation of it is so.
pub confirmed_by : (asked : Option CommandLineValue) (given : List Given) → AreConfirmedBy asked given
confirmed_by None given = tt
confirmed_by (Some line) given = all_confirmed (limits_of line) (run_of (limits_of line) given)
