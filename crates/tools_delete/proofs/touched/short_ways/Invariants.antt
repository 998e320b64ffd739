use Rattle.std.proofs.Common.{◌≡◌, take, filter}
use Rattle.tools_delete.specs.Touched.{falls_short}
use Rattle.tools_delete.proofs.touched.short_ways.Given as goal

abbrev pub invariant-loop-way : goal.invariant-loop-way
invariant-loop-way l = l.short.items ≡ filter (falls_short l.ds l.named) (take l.way-index l.ways)
