use Rattle.std.proofs.Common.{◌≡◌, drop}
use Rattle.tool_api.specs.Upkeep.{folded_from, folded}
use Rattle.relation_upkeep.specs.Folding.{behind}
use Rattle.relation_upkeep.proofs.fold.fold_members.Given as goal

abbrev pub invariant-loop-i : goal.invariant-loop-i
invariant-loop-i l = behind l.folded.items (folded_from l.ways l.kept l.skip (drop l.i l.items)) ≡ folded l.ways l.kept l.members
