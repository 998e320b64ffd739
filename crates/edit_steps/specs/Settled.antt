-- What a file of answers, or a saved session, makes the table now for good.
--
-- For example a file of which the second line is no answer is refused with 26 and 2, and a saved session whose third line can't
-- stand there with 30 and 3.
use Rattle.std.specs.Prelude.{ℕ, List, Result, Ok, Err}
use Rattle.std.specs.Result.{result_map_both}
use Rattle.osm_table.specs.Table.{TableValue}
use Rattle.dataset.specs.Patch.{PatchValue, StandsBefore, after_of}
use Rattle.dataset.specs.Sound.{IsSound}
use Rattle.placeholder.specs.declared.fault.ConfirmFault.{ConfirmFault}
use Rattle.placeholder.specs.declared.fault.ConfirmFault.TheVariants as answer
use Rattle.answer_file.specs.Answers.{confirm_text}
use Rattle.saved_session.specs.declared.fault.SavedFault.{SavedFault}
use Rattle.saved_session.specs.declared.fault.SavedFault.TheVariants as fault
use Rattle.saved_session.specs.Resumed.{saved_patch}
use Rattle.tool_api.specs.declared.refusal.Refusal.TheVariants.{TableFull}
use Rattle.edit_script.specs.declared.reply.StepRefusal.{StepRefusal}
use Rattle.edit_script.specs.declared.reply.StepRefusal.TheVariants.{Tool, WrongAnswer, IdTaken, BadSaved, Unsound}
use Rattle.edit_steps.specs.Planned.{plan_refused}

-- why a file of answers isn't taken; want of memory is no file's refusal
abbrev pub answers_refused : ConfirmFault → StepRefusal
answers_refused (answer.Plan why) = plan_refused why
answers_refused (answer.WrongAnswer line) = WrongAnswer line
answers_refused (answer.IdTaken key) = IdTaken key
answers_refused answer.Memory = WrongAnswer 0

-- why a saved session isn't taken
abbrev pub saved_refused : SavedFault → StepRefusal
saved_refused (fault.BadSaved line) = BadSaved line
saved_refused (fault.Unsound key) = Unsound key
saved_refused fault.TableFull = Tool TableFull
saved_refused fault.Memory = BadSaved 0

abbrev pub of_answers : Result PatchValue ConfirmFault → Result PatchValue StepRefusal
of_answers patch = result_map_both (λ patch. patch) answers_refused patch

abbrev pub of_saved : Result PatchValue SavedFault → Result PatchValue StepRefusal
of_saved patch = result_map_both (λ patch. patch) saved_refused patch

-- The difference to the table that a file of answers confirms.
abbrev pub confirmed : TableValue → List ℕ → Result PatchValue StepRefusal
confirmed t bytes = of_answers (confirm_text t bytes)

-- The difference to the table that a saved session holds, which has so many objects at most.
abbrev pub resumed : ℕ → TableValue → List ℕ → Result PatchValue StepRefusal
resumed limit t bytes = of_saved (saved_patch limit t bytes)

-- the difference is one from this table to a sound one
abbrev pub Settles : TableValue → Result PatchValue StepRefusal → Type 0
Settles t (Ok patch) = StandsBefore patch t × IsSound (after_of patch t)
Settles t (Err why) = Unit {0}
