use Rattle.std.proofs.Common.{arith}
use Rattle.std.proofs.lemmas.Iterator.Consumers.{YieldsList-end, YieldsList-turn}
use Rattle.std.proofs.lemmas.Iterator.Adapters.{YieldsList-from_vec}
use Rattle.std.proofs.lemmas.List.{length_push}
use Rattle.edit_steps.proofs.Counts.{deal_end, deal_on, dealt_none, none_picked}
use Rattle.edit_steps.proofs.boxes.deal.Goals as goal

pub loop-tool-init : goal.loop-tool-init
loop-tool-init g c = record {
  own_dones = rw c.new-own.ensures.items (λ b. cc);
  own_undones = rw c.new-own.ensures.items (λ b. cc);
  other_dones = rw c.new-others.ensures.items (λ b. cc);
  other_undones = rw c.new-others.ensures.items (λ b. cc);
  dealt = rw (c.new-own.ensures.items, c.new-others.ensures.items) dealt_none;
}

pub deal_one-requires-clause-done : goal.deal_one-requires-clause-done
deal_one-requires-clause-done g c =
    let gives = c.into_iter-tool-iterator.ensures.into_iter_gives in
    let t = YieldsList-turn (YieldsList-from_vec {s = c.into_iter-tool-iterator.result} c.args.tools.items gives.0 (omega (arith, gives.1))) c.loop-tool.yielded c.loop-tool.tool-iterator c.loop-tool.yielded_by c.next.result c.next.new.self c.in-Some.tool c.in-Some.is c.next.ensures.steps in
    none_picked _ c.args.tools.items _ c.in-Some.tool t.0 t.1 c.requires.dones

pub deal_one-requires-clause-undone : goal.deal_one-requires-clause-undone
deal_one-requires-clause-undone g c =
    let gives = c.into_iter-tool-iterator.ensures.into_iter_gives in
    let t = YieldsList-turn (YieldsList-from_vec {s = c.into_iter-tool-iterator.result} c.args.tools.items gives.0 (omega (arith, gives.1))) c.loop-tool.yielded c.loop-tool.tool-iterator c.loop-tool.yielded_by c.next.result c.next.new.self c.in-Some.tool c.in-Some.is c.next.ensures.steps in
    none_picked _ c.args.tools.items _ c.in-Some.tool t.0 t.1 c.requires.undones

pub loop-tool-preserved : goal.loop-tool-preserved
loop-tool-preserved g c =
    let gives = c.into_iter-tool-iterator.ensures.into_iter_gives in
    let t = YieldsList-turn (YieldsList-from_vec {s = c.into_iter-tool-iterator.result} c.args.tools.items gives.0 (omega (arith, gives.1))) c.loop-tool.yielded c.loop-tool.tool-iterator c.loop-tool.yielded_by c.next.result c.next.new.self c.in-Some.tool c.in-Some.is c.next.ensures.steps in
    let before = c.loop-tool.invariant in
    let one = c.in_ok-deal_one.ensures in
    record {
      own_dones = one.own_dones before.own_dones;
      own_undones = one.own_undones before.own_undones;
      other_dones = one.other_dones before.other_dones;
      other_undones = one.other_undones before.other_undones;
      dealt = deal_on _ c.args.tools.items _ _ c.in-Some.tool _ _ t.0 t.1 (length_push c.loop-tool.yielded c.in-Some.tool) (one.dealt _ before.dealt);
    }

pub returns-clause-dealt : goal.returns-clause-dealt
returns-clause-dealt g c =
    let gives = c.into_iter-tool-iterator.ensures.into_iter_gives in
    let t = YieldsList-end (YieldsList-from_vec {s = c.into_iter-tool-iterator.result} c.args.tools.items gives.0 (omega (arith, gives.1))) c.loop-tool.yielded c.loop-tool.tool-iterator c.loop-tool.yielded_by c.next.result c.next.new.self c.in-None.is c.next.ensures.steps in
    deal_end _ c.args.tools.items c.loop-tool.yielded _ _ t.1 c.loop-tool.invariant.dealt
