use Rattle.std.proofs.Common.{◌≡◌, take}
use Rattle.tool_api.specs.Checks.{is_named}
use Rattle.tool_api.specs.Gone.{members_without}
use Rattle.relation_upkeep.proofs.drop.staying.Given as goal

abbrev pub invariant-loop-member : goal.invariant-loop-member
invariant-loop-member l = l.left.items ≡ members_without (is_named l.gone) (take l.member-index l.members)
