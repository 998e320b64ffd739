use Rattle.edit_steps.proofs.Counts.{box_left, box_own, counted_none, counted_some}
use Rattle.edit_steps.proofs.boxes.deal_one.Goals as goal

pub returns-then-count_boxes-eq0-clause-dealt : goal.returns-then-count_boxes-eq0-clause-dealt
returns-then-count_boxes-eq0-clause-dealt g c = box_own _ c.args.own.now.items _ c.args.others.now.items c.args.tool c.in_ok-push.ensures.items (counted_none _ _ _ _ _ c.count_boxes.ensures c.verb_of_box.ensures c.if-count_boxes-eq0.true)

pub returns-clause-dealt : goal.returns-clause-dealt
returns-clause-dealt g c = box_left _ c.args.own.now.items _ c.args.others.now.items c.args.tool c.in_ok-push-2.ensures.items (counted_some _ _ _ _ _ c.count_boxes.ensures c.verb_of_box.ensures c.if-count_boxes-eq0.false)
