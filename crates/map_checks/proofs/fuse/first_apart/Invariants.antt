use Rattle.std.proofs.Common.{◌≡◌, drop, not}
use Rattle.tool_api.specs.declared.refusal.Refusal.TheVariants.{NotSamePlace}
use Rattle.tool_api.specs.Checks.{first_of, when}
use Rattle.tool_api.specs.Findings.{are_together}
use Rattle.map_checks.proofs.fuse.first_apart.Given as goal

abbrev pub invariant-loop-node : goal.invariant-loop-node
invariant-loop-node l = first_of (λ k. when (not (are_together l.ds l.first k)) (NotSamePlace k)) (drop l.node-index l.nodes) ≡ first_of (λ k. when (not (are_together l.ds l.first k)) (NotSamePlace k)) l.nodes
