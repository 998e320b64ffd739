use Rattle.osm_base.proofs.ExtendLaws.{extends_itself, extends_more, failed_after}
use Rattle.opl_line.proofs.writing.write_back.Goals as goal

pub returns-in_err-write_time-clause-kept : goal.returns-in_err-write_time-clause-kept
returns-in_err-write_time-clause-kept c =
    failed_after c.from_residual-in_err-write_time.result _ _ _ _ c.in_ok-extend_from_slice.ensures.items (extends_itself _ _ c.in_err-write_time.ensures.kept)

pub returns-in_err-write_number-clause-kept : goal.returns-in_err-write_number-clause-kept
returns-in_err-write_number-clause-kept c =
    failed_after c.from_residual-in_err-write_number.result _ _ _ _ c.in_ok-extend_from_slice.ensures.items (extends_more _ _ _ _ c.in_ok-write_time.ensures.written c.in_err-write_number.ensures.kept)

pub returns-in_err-write_escaped-clause-kept : goal.returns-in_err-write_escaped-clause-kept
returns-in_err-write_escaped-clause-kept c =
    failed_after c.from_residual-in_err-write_escaped.result _ _ _ _ c.in_ok-extend_from_slice.ensures.items (extends_more _ _ _ _ c.in_ok-write_time.ensures.written
    (extends_more _ _ _ _ c.in_ok-write_number.ensures.written (extends_more _ _ _ _ c.in_ok-extend_from_slice-2.ensures.items c.in_err-write_escaped.ensures.kept)))
