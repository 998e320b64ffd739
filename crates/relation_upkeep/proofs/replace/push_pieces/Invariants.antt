use Rattle.std.proofs.Common.{◌≡◌, ◌++◌, map, drop}
use Rattle.tool_api.specs.Upkeep.{in_order, member_of}
use Rattle.relation_upkeep.specs.Replace.{piece_values}
use Rattle.relation_upkeep.proofs.replace.push_pieces.Given as goal

abbrev pub invariant-loop-i : goal.invariant-loop-i
invariant-loop-i l =
    l.out.items ++ map (λ p. member_of p l.role) (drop l.i (in_order l.backward (piece_values l.pieces)))
    ≡ l.initial.out.items ++ map (λ p. member_of p l.role) (in_order l.backward (piece_values l.pieces))
