use Rattle.std.proofs.Common.{◌≡◌, ◌++◌, drop}
use Rattle.std.specs.List.{flat_map}
use Rattle.tool_api.specs.Upkeep.{via_nodes}
use Rattle.relation_upkeep.proofs.replace.via_nodes.Given as goal

abbrev pub invariant-loop-member : goal.invariant-loop-member
invariant-loop-member l = l.out.items ++ flat_map (via_nodes l.ds l.way) (drop l.member-index l.members) ≡ flat_map (via_nodes l.ds l.way) l.members
