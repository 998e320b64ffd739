use Rattle.std.proofs.Common.{length, sym, ap, subst, ◌∙◌}
use Rattle.opl_file.specs.Cut.{lines_of}
use Rattle.placeholder.specs.Confirm.{IsNumbered}
use Rattle.answer_file.proofs.SoFar.{each_line}
use Rattle.answer_file.proofs.confirming.confirmed_by.Goals as goal

pub at_line-requires : goal.at_line-requires
at_line-requires c =
    let file = c.in_ok-file.ensures in
    subst (λ n. IsNumbered n c.in-Err.fault)
    (ap (λ xs. length xs) c.as_slice.ensures.value ∙ ap (λ xs. length xs) file.answers ∙ each_line 1 (lines_of c.args.bytes.now) ∙ sym (ap (λ xs. length xs) file.lines) ∙ sym (ap (λ xs. length xs) c.as_slice-in-Err.ensures.value))
    c.in-Err.ensures.numbered
