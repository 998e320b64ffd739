use Rattle.std.proofs.Common.{◌∙◌, ◌≡◌, ◌<◌, ◌+◌, ◌-◌, length, arith}
use Rattle.dataset.specs.Sides.{side, is_gone}
use Rattle.dataset.proofs.SideLaws.{led_last}
use Rattle.dataset.proofs.writes.drop_keys.Goals as goal

pub loop-i-preserved : goal.loop-i-preserved
loop-i-preserved c =
    let one : c.loop-i.i ≡ (c.loop-i.i - 1) + 1 = grind (arith, c.loop-i-test.true) in
    let within : c.loop-i.i - 1 < length c.args.edits.now = grind (arith, c.loop-i-test.true, c.loop-i.auto) in
    led_last (side c.args.forth) (is_gone c.args.forth) c.args.edits.now c.loop-i.i (c.loop-i.i - 1) c.index-edits-i.result c.loop-i.table c.drop_gone.new.table one within c.index-edits-i.is c.drop_gone.ensures ∙ c.loop-i.invariant
