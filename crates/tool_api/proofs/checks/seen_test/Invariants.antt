use Rattle.std.proofs.Common.{◌≡◌, drop, []}
use Rattle.tool_api.specs.Checks.{twice_test}
use Rattle.tool_api.proofs.checks.seen_test.Given as goal

abbrev pub invariant-loop-key : goal.invariant-loop-key
invariant-loop-key l = twice_test l.seen (drop l.key-index l.keys) ≡ twice_test [] l.keys
