use Rattle.std.proofs.Common.{arith}
use Rattle.edit_steps.proofs.Counts.{count_step}
use Rattle.edit_steps.proofs.boxes.count_boxes.Goals as goal

pub loop-i-preserved : goal.loop-i-preserved
loop-i-preserved g c =
    let before = c.loop-i.invariant in
    record {
      counted = count_step _ c.args.tools.now.items c.loop-i.i c.index.result.now c.args.verb c.loop-i.count _ (omega arith) c.index.ensures before.counted c.has_verb-count.ensures.count;
      most = omega (arith, before.most, c.has_verb-count.ensures.most);
    }
