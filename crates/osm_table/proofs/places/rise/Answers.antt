use Rattle.std.proofs.Common.{◌∙◌, ◌<◌, ◌≤◌, ◌+◌, length, sym, ap, arith}
use Rattle.std.specs.Ordering.{is_lt}
use Rattle.osm_table.proofs.Standing.{more_rise}
use Rattle.osm_table.proofs.places.rise.Goals as goal

pub loop-i-preserved : goal.loop-i-preserved
loop-i-preserved c =
    let within : c.loop-i.i < length c.args.keys.now = grind (arith, c.loop-i-test.true) in
    let next : 1 ≤ c.loop-i.i + 1 = omega arith in (
      next,
      more_rise c.args.keys.now c.loop-i.i _ _ c.loop-i.invariant.0 within (sym (ap is_lt c.rank.ensures) ∙ sym c.is_lt.ensures ∙ c.if-not-is_lt.false) c.loop-i.invariant.1,
    )
