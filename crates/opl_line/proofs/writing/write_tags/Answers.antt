use Rattle.osm_base.proofs.ExtendLaws.{failed_after}
use Rattle.opl_line.proofs.writing.write_tags.Goals as goal

pub returns-in_err-write_more_tags-clause-kept : goal.returns-in_err-write_more_tags-clause-kept
returns-in_err-write_more_tags-clause-kept c =
    failed_after c.from_residual-in_err-write_more_tags.result _ _ _ _ c.in_ok-write_tag.ensures.written c.in_err-write_more_tags.ensures.kept
