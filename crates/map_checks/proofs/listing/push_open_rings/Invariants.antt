use Rattle.std.proofs.Common.{◌≡◌, ◌++◌, take, filter, map}
use Rattle.tool_api.specs.Findings.{is_open_ring}
use Rattle.map_checks.specs.declared.finding.Finding.TheVariants.{OpenRing}
use Rattle.map_checks.proofs.listing.push_open_rings.Given as goal

abbrev pub invariant-loop-key : goal.invariant-loop-key
invariant-loop-key l = l.found.items ≡ l.fn.found.items ++ map OpenRing (filter (is_open_ring l.ds) (take l.key-index l.keys))
