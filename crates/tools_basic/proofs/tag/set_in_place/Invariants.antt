use Rattle.std.proofs.Common.{◌≡◌, drop}
use Rattle.tool_api.specs.Basic.{retagged}
use Rattle.tools_basic.proofs.tag.set_in_place.Given as goal

abbrev pub invariant-loop-pair : goal.invariant-loop-pair
invariant-loop-pair l = retagged l.new (drop l.pair-index l.pairs) ≡ retagged l.fn.tags l.pairs
