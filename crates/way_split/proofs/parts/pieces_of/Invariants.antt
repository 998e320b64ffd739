use Rattle.std.proofs.Common.{◌≡◌, ◌++◌, map, drop}
use Rattle.tool_api.specs.Split.{piece_of}
use Rattle.relation_upkeep.specs.Replace.{piece_values}
use Rattle.way_split.proofs.parts.pieces_of.Given as goal

abbrev pub invariant-loop-part : goal.invariant-loop-part
invariant-loop-part l = piece_values l.pieces.items ++ map (piece_of l.way) (drop l.part-index l.parts) ≡ map (piece_of l.way) l.parts
