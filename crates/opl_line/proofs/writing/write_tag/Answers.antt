use Rattle.osm_base.proofs.ExtendLaws.{extends_more, failed_after}
use Rattle.opl_line.proofs.writing.write_tag.Goals as goal

pub returns-in_err-write_escaped-2-clause-kept : goal.returns-in_err-write_escaped-2-clause-kept
returns-in_err-write_escaped-2-clause-kept c =
    failed_after c.from_residual-in_err-write_escaped-2.result _ _ _ _ c.in_ok-write_escaped.ensures.written (extends_more _ _ _ _ c.in_ok-push.ensures.items c.in_err-write_escaped-2.ensures.kept)
