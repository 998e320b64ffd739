use Rattle.std.proofs.Common.{◌≡◌, ◌<◌, ◌+◌, ◌-◌, length, arith}
use Rattle.dataset.specs.Sides.{side}
use Rattle.dataset.proofs.Exactness.{last_edit}
use Rattle.dataset.proofs.pairs.take_pairs.Goals as goal

pub take_moved-requires : goal.take_moved-requires
take_moved-requires c = λ p.
    let one : c.loop-i.i ≡ (c.loop-i.i - 1) + 1 = grind (arith, c.loop-i-test.true) in
    let within : c.loop-i.i - 1 < length c.args.edits.now = grind (arith, c.loop-i-test.true, c.loop-i.auto) in
    let last = last_edit (side c.args.forth) c.args.edits.now c.loop-i.i (c.loop-i.i - 1) c.index-edits-i.result p one within c.index-edits-i.is in
    let left = c.loop-i.invariant p in
    let all = c.requires p in
    omega (arith, last, left, all)

pub loop-i-preserved : goal.loop-i-preserved
loop-i-preserved c = λ p.
    let one : c.loop-i.i ≡ (c.loop-i.i - 1) + 1 = grind (arith, c.loop-i-test.true) in
    let within : c.loop-i.i - 1 < length c.args.edits.now = grind (arith, c.loop-i-test.true, c.loop-i.auto) in
    let last = last_edit (side c.args.forth) c.args.edits.now c.loop-i.i (c.loop-i.i - 1) c.index-edits-i.result p one within c.index-edits-i.is in
    let left = c.loop-i.invariant p in
    let taken = c.take_moved.ensures p in
    omega (arith, last, left, taken)
