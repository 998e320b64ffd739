use Rattle.std.proofs.Common.{◌≡◌, ◌++◌, take}
use Rattle.relation_upkeep.proofs.joining.push_tags.Given as goal

abbrev pub invariant-loop-tag : goal.invariant-loop-tag
invariant-loop-tag l = l.all.items ≡ l.initial.all.items ++ take l.tag-index l.tags
