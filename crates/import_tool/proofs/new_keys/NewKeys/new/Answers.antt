use Rattle.std.proofs.Common.{◌≡◌, ◌<◌, ◌+◌, ◌-◌, length, arith}
use Rattle.import_tool.proofs.Naming.{one_before}
use Rattle.import_tool.proofs.new_keys.NewKeys.new.Goals as goal

pub loop-i-preserved : goal.loop-i-preserved
loop-i-preserved c =
    let one : c.loop-i.i ≡ (c.loop-i.i - 1) + 1 = grind (arith, c.loop-i-test.true) in
    let within : c.loop-i.i - 1 < length c.args.objects.now = grind (arith, c.loop-i-test.true, c.loop-i.auto) in
    one_before c.args.objects.now c.loop-i.i (c.loop-i.i - 1) c.args.next _ c.index-objects-i.result _ _ c.loop-i.keys.entries c.insert.new.self.entries one within c.index-objects-i.is c.kind.ensures c.new_key-new.ensures c.in_ok-insert.ensures.updates.0 c.loop-i.invariant
