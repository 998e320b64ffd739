use Rattle.std.proofs.Common.{arith, sym, ap, ◌∙◌}
use Rattle.server_world.specs.Asked.{keys_met, of_those}
use Rattle.server_world.proofs.Answering.{taken_none, refused_some}
use Rattle.server_world.proofs.PartRehearsals.{part_starts, part_goes_on, part_stops, no_plan_stops_part}
use Rattle.server_world.proofs.rehearsal.rehearse.Goals as goal

pub loop-change-init : goal.loop-change-init
loop-change-init c =
    let t = c.args.ds.now in
    part_starts t c.args.changes.now c.as_slice-change-items.result.now c.in_ok-world.world c.new-starts.result c.sound.ensures c.as_slice-change-items.ensures
    (c.in_ok-world.ensures ∙ ap (of_those t) (c.deref.ensures.value ∙ c.in_ok-keys.ensures ∙ ap (keys_met t) c.as_slice.ensures)) c.new-starts.ensures

pub returns-in-Refused-clause-value : goal.returns-in-Refused-clause-value
returns-in-Refused-clause-value c =
    part_stops c.args.ds.now c.args.changes.now c.as_slice-change-items.result.now c.loop-change.change-index c.loop-change.accepted c.loop-change.world c.loop-change.starts c.change-item.result (omega arith) c.change-item.is c.loop-change.invariant
    c.in_ok-send_from.ensures.fresh c.in-Refused.why (refused_some _ c.in-Refused.why _ (sym c.in-Refused.is ∙ c.in_ok-send_from.ensures.answer))

pub returns-in-Refused-clause-plan : goal.returns-in-Refused-clause-plan
returns-in-Refused-clause-plan c =
    no_plan_stops_part c.args.ds.now c.args.changes.now c.as_slice-change-items.result.now c.loop-change.change-index c.loop-change.accepted c.loop-change.world c.loop-change.starts c.change-item.result (omega arith) c.change-item.is c.loop-change.invariant
    c.in_ok-send_from.ensures.fresh c.in-Refused.why (refused_some _ c.in-Refused.why _ (sym c.in-Refused.is ∙ c.in_ok-send_from.ensures.answer))

pub loop-change-preserved : goal.loop-change-preserved
loop-change-preserved c =
    part_goes_on c.args.ds.now c.args.changes.now c.as_slice-change-items.result.now c.loop-change.change-index c.loop-change.accepted c.loop-change.world c.loop-change.starts c.change-item.result (omega arith) c.change-item.is c.loop-change.invariant
    c.in_ok-send_from.ensures.fresh c.send_from.new.world c.send_from.new.starts (taken_none _ _ _ (sym c.in-Taken.is ∙ c.in_ok-send_from.ensures.answer)) c.in_ok-send_from.ensures.ok c.in_ok-send_from.ensures.starts
