use Rattle.osm_base.proofs.ExtendLaws.{failed_after}
use Rattle.opl_line.proofs.writing.write_tag_field.Goals as goal

pub returns-in_err-write_tags-clause-kept : goal.returns-in_err-write_tags-clause-kept
returns-in_err-write_tags-clause-kept c =
    failed_after c.from_residual-in_err-write_tags.result _ _ _ _ c.in_ok-extend_from_slice.ensures.items c.in_err-write_tags.ensures.kept
