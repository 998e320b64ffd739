use Rattle.osm_base.proofs.ExtendLaws.{failed_after}
use Rattle.opl_line.proofs.writing.write_refs.Goals as goal

pub returns-in_err-write_more_refs-clause-kept : goal.returns-in_err-write_more_refs-clause-kept
returns-in_err-write_more_refs-clause-kept c =
    failed_after c.from_residual-in_err-write_more_refs.result _ _ _ _ c.in_ok-write_ref.ensures.written c.in_err-write_more_refs.ensures.kept
