use Rattle.std.proofs.Common.{◌≡◌, drop}
use Rattle.tool_api.specs.Split.{longest_from, kept_number}
use Rattle.way_split.proofs.pieces.kept_number.Given as goal

abbrev pub invariant-loop-i : goal.invariant-loop-i
invariant-loop-i l = longest_from l.i l.kept l.most (drop l.i l.pieces) ≡ kept_number l.pieces
