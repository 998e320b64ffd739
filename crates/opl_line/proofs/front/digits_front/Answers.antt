use Rattle.std.proofs.Common.{◌≡◌, true, get_or, arith}
use Rattle.std.specs.Char.{is_ascii_digit}
use Rattle.opl_line.proofs.Fronts.{reads_below, reads_next, reads_fits}
use Rattle.opl_line.proofs.front.digits_front.Goals as goal

pub returns-in_default-clause-below : goal.returns-in_default-clause-below
returns-in_default-clause-below c = reads_below _ _ _ _ _ c.loop-rest.invariant

pub returns-then-left-eq0-clause-below : goal.returns-then-left-eq0-clause-below
returns-then-left-eq0-clause-below c = reads_below _ _ _ _ _ c.loop-rest.invariant

pub overflow_mul-value : goal.overflow_mul-value
overflow_mul-value c =
    let digit : is_ascii_digit (get_or c.loop-rest.rest.now 0 0) ≡ true = cc (c.is_ascii_digit.ensures.value, c.if-not-is_ascii_digit.false) in
    let fits = reads_fits _ _ _ _ _ c.loop-rest.invariant c.requires c.in-len1-up.len_at_least (grind (arith, c.if-left-eq0.false)) digit in
    omega (arith, fits)

pub overflow_add-value : goal.overflow_add-value
overflow_add-value c =
    let digit : is_ascii_digit (get_or c.loop-rest.rest.now 0 0) ≡ true = cc (c.is_ascii_digit.ensures.value, c.if-not-is_ascii_digit.false) in
    let fits = reads_fits _ _ _ _ _ c.loop-rest.invariant c.requires c.in-len1-up.len_at_least (grind (arith, c.if-left-eq0.false)) digit in
    rw c.from.ensures (omega (arith, fits))

pub loop-rest-preserved : goal.loop-rest-preserved
loop-rest-preserved c =
    let digit : is_ascii_digit (get_or c.loop-rest.rest.now 0 0) ≡ true = cc (c.is_ascii_digit.ensures.value, c.if-not-is_ascii_digit.false) in
    rw c.from.ensures (reads_next _ _ _ _ _ c.loop-rest.invariant c.in-len1-up.len_at_least (grind (arith, c.if-left-eq0.false)) digit)
