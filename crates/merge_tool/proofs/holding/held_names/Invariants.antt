use Rattle.std.proofs.Common.{◌≡◌, take}
use Rattle.std.specs.List.{flat_map}
use Rattle.merge_tool.specs.Walks.{mine_refs}
use Rattle.merge_tool.proofs.holding.held_names.Given as goal

abbrev pub invariant-loop-i : goal.invariant-loop-i
invariant-loop-i l = l.names.items ≡ flat_map (mine_refs l.ds) (take l.i l.keys)
