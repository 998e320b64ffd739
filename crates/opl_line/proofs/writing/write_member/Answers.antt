use Rattle.osm_base.proofs.ExtendLaws.{extends_itself, extends_more, failed_after}
use Rattle.opl_line.proofs.writing.write_member.Goals as goal

pub returns-in_err-push-clause-kept : goal.returns-in_err-push-clause-kept
returns-in_err-push-clause-kept c =
    failed_after c.from_residual-in_err-push.result _ _ _ _ c.in_ok-write_key.ensures.written (extends_itself _ _ c.in_err-push.ensures.items)

pub returns-in_err-write_escaped-clause-kept : goal.returns-in_err-write_escaped-clause-kept
returns-in_err-write_escaped-clause-kept c =
    failed_after c.from_residual-in_err-write_escaped.result _ _ _ _ c.in_ok-write_key.ensures.written (extends_more _ _ _ _ c.in_ok-push.ensures.items c.in_err-write_escaped.ensures.kept)
