use Rattle.std.proofs.Common.{◌≡◌, ◌∙◌, arith, w64, to_z, of_z}
use Rattle.std.proofs.lemmas.Int.{to_z-of_z}
use Rattle.relation_upkeep.proofs.Replaces.{last_node_got}
use Rattle.relation_upkeep.proofs.replace.last_node.Goals as goal

pub returns-in-Some : goal.returns-in-Some
returns-in-Some c =
    let a : to_z w64 (of_z w64 c.in-Some.piece.now.last) ≡ c.in-Some.piece.now.last = grind (arith, to_z-of_z) in
    a ∙ last_node_got c.args.pieces.now c.in-Some.piece.now c.in-Some.ensures.value
