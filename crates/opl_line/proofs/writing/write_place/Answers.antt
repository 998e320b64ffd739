use Rattle.osm_base.proofs.ExtendLaws.{extends_more, failed_after}
use Rattle.opl_line.proofs.writing.write_place.Goals as goal

pub returns-in_err-write_coord-clause-kept : goal.returns-in_err-write_coord-clause-kept
returns-in_err-write_coord-clause-kept c =
    failed_after c.from_residual-in_err-write_coord.result _ _ _ _ c.in_ok-push.ensures.items (extends_more _ _ _ _ c.in_ok-push-2.ensures.items c.in_err-write_coord.ensures.kept)
