use Rattle.std.proofs.Common.{ap, rules}
use Rattle.std.proofs.lemmas.List.Sorted.{answers_always}
use Rattle.edit_script.proofs.Lookup.{Listed, are_named, comparisons_rise, found_at, found_nowhere, rise, words_listed}
use Rattle.edit_script.proofs.forms.form_of.Goals as goal

pub returns-in-Ok : goal.returns-in-Ok
returns-in-Ok c =
    found_at c.args.word.now c.as_slice-forms.result.now c.in-Ok.at _ (ap are_named c.as_slice-forms.ensures) c.in-Ok.ensures.bound
    (c.in-Ok.ensures.position (λ (at : Listed). at.0) (answers_always _ _ _ (λ f a r g called. search rules)) _)

pub returns-in-Err : goal.returns-in-Err
returns-in-Err c =
    found_nowhere c.args.word.now c.as_slice-forms.result.now c.in-Err.field-0 (ap words_listed c.as_slice-forms.ensures)
    (c.in-Err.ensures.position (λ (at : Listed). at.0) (answers_always _ _ _ (λ f a r g called. search rules)) (comparisons_rise c.args.word.now c.as_slice-forms.result.now (ap rise c.as_slice-forms.ensures)))
