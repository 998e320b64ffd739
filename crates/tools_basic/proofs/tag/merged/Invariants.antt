use Rattle.std.proofs.Common.{[], ◌∷◌, ◌+◌, drop, length}
use Rattle.tool_api.specs.Basic.{retagged}
use Rattle.tools_basic.proofs.Merges.{Merged}
use Rattle.tools_basic.proofs.tag.merged.Given as goal

abbrev pub invariant-loop-tag : goal.invariant-loop-tag
invariant-loop-tag l = Merged l.new l.rest (l.pair ∷ drop (l.pair-index + 1) l.pairs) (retagged l.tags l.pairs)

abbrev pub decreases-loop-tag : goal.decreases-loop-tag
decreases-loop-tag l = length l.rest

abbrev pub invariant-loop-pair : goal.invariant-loop-pair
invariant-loop-pair l = Merged l.new l.rest (drop l.pair-index l.pairs) (retagged l.tags l.pairs)

abbrev pub invariant-loop-tag-2 : goal.invariant-loop-tag-2
invariant-loop-tag-2 l = Merged l.new l.rest [] (retagged l.tags l.pairs)

abbrev pub decreases-loop-tag-2 : goal.decreases-loop-tag-2
decreases-loop-tag-2 l = length l.rest
