use Rattle.std.proofs.Common.{◌≡◌, take, drop, []}
use Rattle.tool_api.specs.Split.{node_tests}
use Rattle.way_split.proofs.node_checks.node_tests.Given as goal

abbrev pub invariant-loop-key : goal.invariant-loop-key
invariant-loop-key l = (l.seen ≡ take l.key-index l.nodes) × (node_tests l.refs l.seen (drop l.key-index l.nodes) ≡ node_tests l.refs [] l.nodes)
