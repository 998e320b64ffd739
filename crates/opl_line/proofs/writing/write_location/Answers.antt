use Rattle.osm_base.proofs.ExtendLaws.{failed_after}
use Rattle.opl_line.proofs.writing.write_location.Goals as goal

pub returns-in_err-write_place-2-clause-kept : goal.returns-in_err-write_place-2-clause-kept
returns-in_err-write_place-2-clause-kept c =
    failed_after c.from_residual-in_err-write_place-2.result _ _ _ _ c.in_ok-write_place.ensures.written c.in_err-write_place-2.ensures.kept
