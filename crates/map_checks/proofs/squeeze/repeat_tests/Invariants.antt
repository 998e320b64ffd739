use Rattle.std.proofs.Common.{◌≡◌, drop, not}
use Rattle.tool_api.specs.declared.refusal.Refusal.TheVariants.{NoFinding}
use Rattle.tool_api.specs.Checks.{first_of, when}
use Rattle.tool_api.specs.Findings.{is_repeated}
use Rattle.map_checks.proofs.squeeze.repeat_tests.Given as goal

abbrev pub invariant-loop-key : goal.invariant-loop-key
invariant-loop-key l = first_of (λ k. when (not (is_repeated l.ds k)) (NoFinding k)) (drop l.key-index l.keys) ≡ first_of (λ k. when (not (is_repeated l.ds k)) (NoFinding k)) l.keys
