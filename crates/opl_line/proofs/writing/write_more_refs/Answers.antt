use Rattle.osm_base.proofs.ExtendLaws.{extends_itself, extends_more, failed_after}
use Rattle.opl_line.proofs.writing.write_more_refs.Goals as goal

pub returns-in_err-push-clause-kept : goal.returns-in_err-push-clause-kept
returns-in_err-push-clause-kept c =
    failed_after c.from_residual.result _ _ _ _ c.loop-item.invariant (extends_itself _ _ c.in_err-push.ensures.items)

pub returns-in_err-write_ref-clause-kept : goal.returns-in_err-write_ref-clause-kept
returns-in_err-write_ref-clause-kept c =
    failed_after c.from_residual-in_err-write_ref.result _ _ _ _ c.loop-item.invariant (extends_more _ _ _ _ c.in_ok-push.ensures.items c.in_err-write_ref.ensures.kept)
