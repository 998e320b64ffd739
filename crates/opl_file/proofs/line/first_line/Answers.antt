use Rattle.std.proofs.Common.{◌≡◌, length, take_all, le_refl, subst, arith}
use Rattle.opl_file.specs.Cut.{has_lf}
use Rattle.opl_file.proofs.Cutting.{plain_below}
use Rattle.opl_file.proofs.line.first_line.Goals as goal

pub returns-in-None-clause-front : goal.returns-in-None-clause-front
returns-in-None-clause-front c =
    let bytes = c.args.bytes.now in
    subst (λ xs. has_lf xs ≡ _) (take_all _ _ (le_refl (length bytes))) (plain_below bytes (length bytes) (omega arith) c.in-None.ensures)

pub returns-in-Some-clause-front : goal.returns-in-Some-clause-front
returns-in-Some-clause-front c =
    let first = c.in-Some.ensures.0 in
    rw c.split_at.ensures.front (plain_below c.args.bytes.now c.in-Some.end (omega (arith, first.high)) first.before)
