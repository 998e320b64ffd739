use Rattle.std.proofs.Common.{◌≡◌, ◌∙◌, Some, sym, ap, arith, w64, to_z, of_z}
use Rattle.std.proofs.lemmas.Int.{to_z-of_z}
use Rattle.opl_line.proofs.Items.{ref_before, ref_after}
use Rattle.opl_line.proofs.lists.plain_ref.Goals as goal

pub returns-in_err-id-clause-value : goal.returns-in_err-id-clause-value
returns-in_err-id-clause-value c = rw c.from_residual.ensures tt

pub returns-in_err-id-clause-rest : goal.returns-in_err-id-clause-rest
returns-in_err-id-clause-rest c = rw c.from_residual.ensures tt

pub returns-clause-value : goal.returns-clause-value
returns-clause-value c =
    let same : to_z w64 (of_z w64 c.in_ok-id.id) ≡ c.in_ok-id.id = grind (arith, to_z-of_z) in
    ref_before c.args.bytes.now c.in_ok-id.id c.in-len1-up.len_at_least c.if-first-ne110.false (sym c.in_ok-id.ensures.value) ∙ ap Some (sym same)

pub returns-clause-rest : goal.returns-clause-rest
returns-clause-rest c = c.in_ok-id.ensures.rest ∙ sym (ref_after c.args.bytes.now c.in-len1-up.len_at_least c.if-first-ne110.false)
