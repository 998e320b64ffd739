use Rattle.std.proofs.Common.{◌∙◌, ◌++◌, sym, ap, List, ℕ}
use Rattle.std.specs.List.{list_all}
use Rattle.opl_text.specs.Written.{stays}
use Rattle.opl_text.proofs.WrittenLaw.{stays_written}
use Rattle.opl_text.proofs.text.write_escaped.Goals as goal

pub returns-in_ok-extend_from_slice-clause-written : goal.returns-in_ok-extend_from_slice-clause-written
returns-in_ok-extend_from_slice-clause-written c =
    let all = ap (list_all stays) (sym c.as_bytes.ensures.value) ∙ sym c.all_stay.ensures ∙ c.if-all_stay.true in
    c.in_ok-extend_from_slice.ensures.items ∙ ap (λ (bytes : List ℕ). c.args.out.now.items ++ bytes) (c.as_bytes-then-all_stay.ensures.value ∙ sym (stays_written c.args.text.now all))
