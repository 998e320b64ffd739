use Rattle.osm_base.proofs.ExtendLaws.{failed_after}
use Rattle.saved_session.proofs.writing.write_entries.Goals as goal

pub returns-in_err-write_saved_entry-clause-kept : goal.returns-in_err-write_saved_entry-clause-kept
returns-in_err-write_saved_entry-clause-kept c =
    failed_after c.from_residual.result _ _ _ _ c.loop-key.invariant c.in_err-write_saved_entry.ensures.kept
