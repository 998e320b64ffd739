use Rattle.std.proofs.Common.{◌≡◌, ◌++◌, drop}
use Rattle.tools_basic.specs.Moves.{all_moved_with}
use Rattle.tools_basic.proofs.shift.collected.Given as goal

abbrev pub invariant-loop-key : goal.invariant-loop-key
invariant-loop-key l = l.nodes.items ++ all_moved_with l.ds (drop l.key-index l.keys) ≡ all_moved_with l.ds l.keys
