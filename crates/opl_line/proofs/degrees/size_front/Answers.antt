use Rattle.std.proofs.Common.{◌≤◌, length, ap, sym, ◌∙◌, arith}
use Rattle.opl_line.specs.Front.{front_digits, ended}
use Rattle.opl_line.specs.Line.{is_blank}
use Rattle.opl_line.proofs.Coordinates.{size_pointed, after_pointed, size_whole, after_whole}
use Rattle.opl_line.proofs.degrees.size_front.Goals as goal

pub returns-in_ok-part-in-Some-clause-value : goal.returns-in_ok-part-in-Some-clause-value
returns-in_ok-part-in-Some-clause-value c =
    let some : 1 ≤ length (front_digits 3 c.args.bytes.now) = grind (arith, c.digits_front-whole.ensures.count, c.if-count-eq0.false) in
    rw c.digits_front-whole.ensures.value (size_pointed c.args.bytes.now c.in-Some.places.now _ (sym c.digits_front-whole.ensures.rest ∙ c.in-Some.ensures) some c.in_ok-part-in-Some.ensures.value)

pub returns-in_ok-part-in-Some-clause-rest : goal.returns-in_ok-part-in-Some-clause-rest
returns-in_ok-part-in-Some-clause-rest c = c.in_ok-part-in-Some.ensures.rest ∙ sym (after_pointed c.args.bytes.now c.in-Some.places.now (sym c.digits_front-whole.ensures.rest ∙ c.in-Some.ensures))

pub returns-in_ok-rest-in-None-clause-value : goal.returns-in_ok-rest-in-None-clause-value
returns-in_ok-rest-in-None-clause-value c =
    let some : 1 ≤ length (front_digits 3 c.args.bytes.now) = grind (arith, c.digits_front-whole.ensures.count, c.if-count-eq0.false) in
    rw c.digits_front-whole.ensures.value (size_whole c.args.bytes.now _ (sym (c.in_ok-rest-in-None.ensures ∙ ap (ended is_blank) c.digits_front-whole.ensures.rest)) some)

pub returns-in_ok-rest-in-None-clause-rest : goal.returns-in_ok-rest-in-None-clause-rest
returns-in_ok-rest-in-None-clause-rest c = sym (after_whole c.args.bytes.now _ (sym (c.in_ok-rest-in-None.ensures ∙ ap (ended is_blank) c.digits_front-whole.ensures.rest)))
