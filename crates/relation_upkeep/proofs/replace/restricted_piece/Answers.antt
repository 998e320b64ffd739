use Rattle.relation_upkeep.proofs.Replaces.{by_keys, restricted_found, restricted_kept}
use Rattle.relation_upkeep.proofs.replace.restricted_piece.Goals as goal

pub returns-in-Some : goal.returns-in-Some
returns-in-Some c = restricted_found c.args.via.now c.args.pieces.now _ (by_keys c.args.via.now _ c.args.pieces.now _ c.in_ok-via.ensures c.in-Some.ensures)

pub returns : goal.returns
returns c = restricted_kept c.args.via.now c.args.pieces.now _ (by_keys c.args.via.now _ c.args.pieces.now _ c.in_ok-via.ensures c.in-None.ensures) c.kept_piece.ensures
