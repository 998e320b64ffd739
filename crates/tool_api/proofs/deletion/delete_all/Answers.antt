use Rattle.std.proofs.Common.{arith, refl, ◌<◌, length}
use Rattle.tool_api.proofs.Looks.{one_more}
use Rattle.tool_api.proofs.deletion.delete_all.Goals as goal

pub loop-key-preserved : goal.loop-key-preserved
loop-key-preserved c = one_more c.args.ds.now _ _ _ _ _ _ _ _ (let h : c.loop-key.key-index < length c.args.keys.now = omega arith in h) refl c.in_ok-delete_one.ensures c.loop-key.invariant
