use Rattle.std.proofs.Common.{◌≡◌, arith, inl, inr, sym, ◌∙◌}
use Rattle.server_world.specs.Free.{last_id}
use Rattle.server_world.proofs.Freeness.{free_found, start_on}
use Rattle.server_world.proofs.free.free_from.Goals as goal

pub loop-id-preserved : goal.loop-id-preserved
loop-id-preserved c = start_on c.args.world.now c.args.ds.now c.args.kind c.loop-id.id c.loop-id.invariant c.loop-id-test.true (sym c.is_taken.ensures ∙ c.if-is_taken.true)

pub returns-else-is_taken-clause-value : goal.returns-else-is_taken-clause-value
returns-else-is_taken-clause-value c = free_found c.args.world.now c.args.ds.now c.args.kind c.loop-id.id c.loop-id.invariant (inr (sym c.is_taken.ensures ∙ c.if-is_taken.false))

pub returns-after-loop-id-clause-value : goal.returns-after-loop-id-clause-value
returns-after-loop-id-clause-value c =
    let last : c.loop-id.id ≡ last_id = omega (arith, c.loop-id-test.false, c.loop-id.invariant.most) in
    free_found c.args.world.now c.args.ds.now c.args.kind c.loop-id.id c.loop-id.invariant (inl last)
