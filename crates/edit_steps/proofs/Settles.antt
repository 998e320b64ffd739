-- Why a file of answers or a saved session isn't taken.
use Rattle.std.proofs.Common.{◌≡◌, ◌≢◌, Result, Err, refl, sym, ap, ◌∙◌}
use Rattle.dataset.specs.Patch.{PatchValue}
use Rattle.placeholder.specs.declared.fault.ConfirmFault.{ConfirmFault}
use Rattle.placeholder.specs.declared.fault.ConfirmFault.TheVariants as answers
use Rattle.placeholder.specs.Confirm.{Confirms}
use Rattle.saved_session.specs.declared.fault.SavedFault.{SavedFault}
use Rattle.saved_session.specs.declared.fault.SavedFault.TheVariants as saved
use Rattle.saved_session.specs.Resumed.{Resumes}
use Rattle.edit_script.specs.declared.reply.StepRefusal.{StepRefusal}
use Rattle.edit_steps.specs.Settled.{answers_refused, of_answers, saved_refused, of_saved}

confirms_err : (why : ConfirmFault) (answer : Result PatchValue ConfirmFault) → Confirms (Err why) answer → why ≢ answers.Memory → answer ≡ Err why
confirms_err answers.Memory answer is found = absurd (found refl)
confirms_err why answer is found = is

-- answers that aren't taken
pub confirm_refused : (why : ConfirmFault) (refusal : StepRefusal) (answer : Result PatchValue ConfirmFault) → Confirms (Err why) answer → why ≢ answers.Memory → refusal ≡ answers_refused why → Err refusal ≡ of_answers answer
confirm_refused why refusal answer is found same = ap Err same ∙ sym (ap of_answers (confirms_err why answer is found))

resumes_err : (why : SavedFault) (answer : Result PatchValue SavedFault) → Resumes (Err why) answer → why ≢ saved.Memory → answer ≡ Err why
resumes_err saved.Memory answer is found = absurd (found refl)
resumes_err why answer is found = is

-- a saved session that isn't taken
pub resume_refused : (why : SavedFault) (refusal : StepRefusal) (answer : Result PatchValue SavedFault) → Resumes (Err why) answer → why ≢ saved.Memory → refusal ≡ saved_refused why → Err refusal ≡ of_saved answer
resume_refused why refusal answer is found same = ap Err same ∙ sym (ap of_saved (resumes_err why answer is found))
