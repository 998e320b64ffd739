use Rattle.std.proofs.Common.{◌≡◌, ◌++◌, take, filter, map}
use Rattle.tool_api.specs.Findings.{is_repeated}
use Rattle.map_checks.specs.declared.finding.Finding.TheVariants.{Repeated}
use Rattle.map_checks.proofs.listing.push_repeated_ways.Given as goal

abbrev pub invariant-loop-key : goal.invariant-loop-key
invariant-loop-key l = l.found.items ≡ l.fn.found.items ++ map Repeated (filter (is_repeated l.ds) (take l.key-index l.keys))
