use Rattle.osm_base.proofs.ExtendLaws.{failed_after}
use Rattle.opl_line.proofs.writing.write_members.Goals as goal

pub returns-in_err-write_more_members-clause-kept : goal.returns-in_err-write_more_members-clause-kept
returns-in_err-write_more_members-clause-kept c =
    failed_after c.from_residual-in_err-write_more_members.result _ _ _ _ c.in_ok-write_member.ensures.written c.in_err-write_more_members.ensures.kept
