use Rattle.osm_base.proofs.ExtendLaws.{failed_after}
use Rattle.opl_line.proofs.writing.write_member_field.Goals as goal

pub returns-in_err-write_members-clause-kept : goal.returns-in_err-write_members-clause-kept
returns-in_err-write_members-clause-kept c =
    failed_after c.from_residual-in_err-write_members.result _ _ _ _ c.in_ok-extend_from_slice.ensures.items c.in_err-write_members.ensures.kept
