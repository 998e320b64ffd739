use Rattle.std.proofs.Common.{◌≡◌, drop}
use Rattle.tool_api.specs.Combine.{joined_on}
use Rattle.way_combine.proofs.joining.put_all.Given as goal

abbrev pub invariant-loop-way : goal.invariant-loop-way
invariant-loop-way l = joined_on l.ds l.joined.items (drop l.way-index l.ways) ≡ joined_on l.ds l.initial.joined.items l.ways
