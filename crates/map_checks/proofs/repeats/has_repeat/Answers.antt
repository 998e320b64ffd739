use Rattle.std.proofs.Common.{◌≡◌, ◌<◌, ◌≤◌, ◌+◌, ◌-◌, length, get_or, pos, arith}
use Rattle.map_checks.proofs.SideBySide.{apart, ended, differs}
use Rattle.map_checks.proofs.repeats.has_repeat.Goals as goal

pub loop-i-preserved : goal.loop-i-preserved
loop-i-preserved c =
    let begun = c.loop-i.invariant.begun in
    let one : c.loop-i.i ≡ (c.loop-i.i - 1) + 1 = omega (arith, begun) in
    let same : (c.loop-i.i + 1) - 1 ≡ c.loop-i.i = omega arith in
    let within : c.loop-i.i < length c.args.refs.now = grind (arith, c.loop-i-test.true, c.loop-i.auto) in
    record { begun = omega arith; so_far = apart c.args.refs.now c.loop-i.i (c.loop-i.i - 1) _ (pos 0) (pos 0) one same within (differs (get_or c.args.refs.now (c.loop-i.i - 1) (pos 0)) (get_or c.args.refs.now c.loop-i.i (pos 0)) c.if-refs-i.false) c.loop-i.invariant.so_far }

pub returns : goal.returns
returns c =
    let begun = c.loop-i.invariant.begun in
    let one : c.loop-i.i ≡ (c.loop-i.i - 1) + 1 = omega (arith, begun) in
    let end : length c.args.refs.now ≤ c.loop-i.i = grind (arith, c.loop-i-test.false, c.loop-i.auto) in
    ended c.args.refs.now c.loop-i.i (c.loop-i.i - 1) one end c.loop-i.invariant.so_far
