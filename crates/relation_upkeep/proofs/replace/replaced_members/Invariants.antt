use Rattle.std.proofs.Common.{◌≡◌, ◌++◌, drop, None}
use Rattle.std.specs.Option.{option_copied}
use Rattle.tool_api.specs.Upkeep.{replaced_from}
use Rattle.relation_upkeep.specs.Replace.{piece_values, via_of}
use Rattle.relation_upkeep.proofs.replace.replaced_members.Given as goal

abbrev pub invariant-loop-i : goal.invariant-loop-i
invariant-loop-i l =
    l.out.items ++ replaced_from l.ds l.way (piece_values l.pieces) (via_of l.ds l.way l.tags l.members) (option_copied l.before) (drop l.i l.members)
    ≡ replaced_from l.ds l.way (piece_values l.pieces) (via_of l.ds l.way l.tags l.members) None l.members
