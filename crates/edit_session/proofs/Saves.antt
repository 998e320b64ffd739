-- Each save of a run writes a text that is read back as the very table.
use Rattle.std.proofs.Common.{◌≡◌, ◌≤◌, ℕ, Bool, true, false, if◌then◌else◌, List, [], ◌∷◌, map, take, Result, Ok, Err, refl, sym, ap, ◌∙◌}
use Rattle.std.specs.FinMap as fin
use Rattle.std.proofs.lemmas.List.Elements.{All-nil, All-cons, All-head, All-tail, All-take}
use Rattle.dataset.specs.Diff.{diff}
use Rattle.dataset.specs.Sound.{IsSound}
use Rattle.dataset.proofs.Differs.{diff_is}
use Rattle.dataset.proofs.Laws.{diff_leads}
use Rattle.saved_session.specs.Resumed.{patch_to, saved_patch}
use Rattle.saved_session.specs.Saved.{saved}
use Rattle.saved_session.proofs.TableAgain as again
use Rattle.edit_history.specs.Machine.{State, first_state, fresh}
use Rattle.edit_script.specs.declared.step.Act.TheVariants as act
use Rattle.edit_script.specs.declared.step.Look.TheVariants.{Save}
use Rattle.edit_script.specs.declared.step.Step.{Step}
use Rattle.edit_script.specs.declared.reply.StepReply.TheVariants.{Done}
use Rattle.edit_script.specs.Place.{is_meeting}
use Rattle.edit_script.specs.Script.{steps_of}
use Rattle.editor_laws.specs.Texts.{IsTextTable}
use Rattle.editor_laws.proofs.TextReadable.{readable}
use Rattle.edit_session.proofs.ScriptTexts.{IfSteps, StepsBringTexts, script_brings}
use Rattle.edit_steps.specs.declared.files.Fetched.{Fetched}
use Rattle.edit_steps.specs.declared.files.Fetched.TheVariants.{Missing, TooLong, Whole}
use Rattle.edit_steps.specs.declared.limits.Limits.{Limits}
use Rattle.edit_steps.specs.declared.loading.Found.TheVariants as found
use Rattle.edit_steps.specs.declared.looks.Behind.TheVariants as behind
use Rattle.edit_steps.specs.Groups.{is_given_up}
use Rattle.edit_steps.specs.Load.{found_in}
use Rattle.edit_steps.specs.Given.{Given}
use Rattle.edit_steps.specs.States.{AreSound}
use Rattle.edit_session.specs.Saves.{AreSaves, IsSaved}
use Rattle.edit_session.specs.Session.{met, run, steps_in, steps_read}
use Rattle.edit_steps.specs.States.{states_before}
use Rattle.edit_session.specs.Meet.{first_seat, own_machine}
use Rattle.edit_steps.specs.Settled.{of_saved}
use Rattle.edit_steps.specs.Looks.{looked}
use Rattle.edit_steps.specs.Turn.{Turn, done_turn, resume_turn, settled_turn, skipped_turn, step_turn, still_turn, turn, turn_text}
use Rattle.many_editors.proofs.MeetingTexts as meetings
use Rattle.edit_session.proofs.SeatTexts.{seats_texts}
use Rattle.edit_session.proofs.Texts.{AreTextTables, first_texts, run_texts}

-- One save.
module _ (limits : Limits) (given : Given) (step : Step) (s : State) (is : step.act ≡ act.Look Save) (sound : IsSound s.now) (texts : IsTextTable s.now) where
  its_turn : (b : Bool) → is_given_up s.group ≡ b → step_turn limits given step s ≡ (if b then skipped_turn (act.Look Save) s else still_turn (looked behind.Saved) s)
  its_turn b group =
      ap (λ a. turn limits (found_in limits given s.group a) a s) is
      ∙ ap (λ b. if b then skipped_turn (act.Look Save) s else still_turn (looked behind.Saved) s) group

  resumes : (limit : ℕ) (u : State) → fin.len s.now.entries ≤ limit → resume_turn limit (found.Bytes (saved s.now)) u ≡ done_turn (fresh s.now)
  unfolding saved_patch
  resumes limit u fits =
      ap (λ r. settled_turn (of_saved (patch_to u.now r)) u) (again.alone limit s.now sound (readable s.now sound texts) fits)
      ∙ ap (λ t. done_turn (fresh t)) (sym (diff_leads u.now s.now (diff u.now s.now) (diff_is u.now s.now)).to)

  is_saved : (b : Bool) → is_given_up s.group ≡ b → (step_turn limits given step s).answer.reply ≡ Done [] → IsSaved limits given step s
  is_saved true group done = let never = sym (ap (λ (t : Turn). t.answer.reply) (its_turn true group)) ∙ done in absurd cc
  is_saved false group done = record {
    text = ap (λ t. turn_text step.line t) (its_turn false group);
    again = λ limit front behind fits before. again.among_lines limit s.now front behind sound (readable s.now sound texts) fits before;
    resumed = resumes;
  }

all_saved : (limits : Limits) (steps : List (Step × Given × State)) → AreSound steps → AreTextTables steps → AreSaves limits steps
all_saved limits [] sound texts = All-nil (λ (at : Step × Given × State). at.0.act ≡ act.Look Save → (step_turn limits at.1 at.0 at.2).answer.reply ≡ Done [] → IsSaved limits at.1 at.0 at.2)
all_saved limits (at ∷ steps) sound texts =
    All-cons (λ (at : Step × Given × State). at.0.act ≡ act.Look Save → (step_turn limits at.1 at.0 at.2).answer.reply ≡ Done [] → IsSaved limits at.1 at.0 at.2) at steps
    (λ is done. is_saved limits at.1 at.0 at.2 is (All-head (λ (at : Step × Given × State). IsSound at.2.now) at steps sound) (All-head (λ (at : Step × Given × State). IsTextTable at.2.now) at steps texts) (is_given_up at.2.group) refl done)
    (all_saved limits steps (All-tail (λ (at : Step × Given × State). IsSound at.2.now) at steps sound) (All-tail (λ (at : Step × Given × State). IsTextTable at.2.now) at steps texts))

-- All saves of a script.

read_brings : (r : Result (List Step) ℕ) → IfSteps r → StepsBringTexts (steps_read r)
read_brings (Ok steps) h = h
read_brings (Err line) h = tt

pub in_brings : (f : Fetched) → StepsBringTexts (steps_in f)
in_brings Missing = tt
in_brings TooLong = tt
in_brings (Whole bytes) = read_brings (steps_of bytes) (script_brings bytes)

-- the texts of a run may be written
run_readable : (limits : Limits) (given : List Given) (steps : List Step) (meets : Bool) → StepsBringTexts steps → AreTextTables (if meets then map own_machine (met limits given steps) else states_before limits given steps first_state)
run_readable limits given steps true brings = seats_texts limits given steps first_seat brings (meetings.first_texts 4)
run_readable limits given steps false brings = run_texts limits given steps first_state brings first_texts

-- Where the tables of the run are sound, each save is read back,
pub saves_in : (limits : Limits) (given : List Given) (f : Fetched) → AreSound (run limits given (steps_in f)) → AreSaves limits (run limits given (steps_in f))
saves_in limits given f sound = all_saved limits (run limits given (steps_in f)) sound (run_readable limits given (steps_in f) (is_meeting (steps_in f)) (in_brings f))

-- and so it is of the first of them.
pub first_saves : (limits : Limits) (n : ℕ) (given : List Given) (f : Fetched) → AreSound (take n (run limits given (steps_in f))) → AreSaves limits (take n (run limits given (steps_in f)))
first_saves limits n given f sound =
    all_saved limits (take n (run limits given (steps_in f))) sound
    (All-take (λ (at : Step × Given × State). IsTextTable at.2.now) n (run limits given (steps_in f)) (run_readable limits given (steps_in f) (is_meeting (steps_in f)) (in_brings f)))
