use Rattle.std.proofs.Common.{◌<◌, length, arith}
use Rattle.dataset.specs.Sides.{side}
use Rattle.dataset.proofs.Exactness.{next_edit}
use Rattle.dataset.proofs.pairs.add_pairs.Goals as goal

pub loop-i-preserved : goal.loop-i-preserved
loop-i-preserved c = λ p.
    let within : c.loop-i.i < length c.args.edits.now = grind (arith, c.loop-i-test.true) in
    let next = next_edit (side c.args.forth) c.args.edits.now c.loop-i.i c.index-edits-i.result p within c.index-edits-i.is in
    let before = c.loop-i.invariant p in
    let more = c.in_default.ensures.ok p in
    omega (arith, next, before, more)
