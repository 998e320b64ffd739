use Rattle.std.proofs.Common.{rules, ◌≡◌, ◌+◌, arith}
use Rattle.ref_index.specs.Repeats.{number_of}
use Rattle.ref_index.proofs.Agreement.{kept_number}
use Rattle.ref_index.proofs.repeats.count_again.Goals as goal

pub returns-then-number-clause-err : goal.returns-then-number-clause-err
returns-then-number-clause-err c =
    let is : c.or_insert-number.result.now ≡ number_of c.args.repeats.now.entries c.args.pair = search rules in
    kept_number c.args.repeats.now.entries _ c.args.pair c.or_insert-number.result.now is (omega (arith, c.if-number.true)) (λ q. search (rules, (c.in_ok-repeats.ensures.update.0 c.or_insert-number.result.now).0 q))

pub returns-clause-ok : goal.returns-clause-ok
returns-clause-ok c =
    let is : c.or_insert-number.result.now ≡ number_of c.args.repeats.now.entries c.args.pair = search rules in
    λ q. search (rules, is, (c.in_ok-repeats.ensures.update.0 (c.or_insert-number.result.now + 1)).0 q)
