use Rattle.std.proofs.Common.{◌≡◌, drop}
use Rattle.relation_upkeep.specs.Union.{put_on}
use Rattle.relation_upkeep.proofs.joining.put_on.Given as goal

abbrev pub invariant-loop-tag : goal.invariant-loop-tag
invariant-loop-tag l = put_on l.tags (drop l.tag-index l.sorted) ≡ put_on l.initial.tags l.sorted
