use Rattle.std.proofs.Common.{◌≤◌, length, arith}
use Rattle.tool_api.specs.Upkeep.{in_order, member_of}
use Rattle.relation_upkeep.specs.Replace.{piece_values}
use Rattle.relation_upkeep.proofs.Replaces.{one_mapped, all_mapped, piece_count}
use Rattle.relation_upkeep.proofs.replace.push_pieces.Goals as goal

pub loop-i-preserved : goal.loop-i-preserved
loop-i-preserved c =
    one_mapped (λ p. member_of p c.args.role.now) (in_order c.args.backward (piece_values c.args.pieces.now)) c.loop-i.i _ _ _ _ c.piece_at.ensures c.in_ok-push_piece.ensures c.loop-i.invariant

pub returns : goal.returns
returns c =
    let n = piece_count c.args.backward c.args.pieces.now in
    all_mapped (λ p. member_of p c.args.role.now) (in_order c.args.backward (piece_values c.args.pieces.now)) c.loop-i.i _ _
    (let h : length (in_order c.args.backward (piece_values c.args.pieces.now)) ≤ c.loop-i.i = omega (arith, n) in h) c.loop-i.invariant
