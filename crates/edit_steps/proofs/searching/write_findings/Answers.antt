use Rattle.osm_base.proofs.ExtendLaws.{failed_after}
use Rattle.edit_steps.proofs.searching.write_findings.Goals as goal

pub returns-in_err-write_finding-clause-kept : goal.returns-in_err-write_finding-clause-kept
returns-in_err-write_finding-clause-kept c =
    failed_after c.from_residual.result _ _ _ _ c.loop-finding.invariant c.in_err-write_finding.ensures.kept
