use Rattle.osm_base.proofs.ExtendLaws.{failed_after}
use Rattle.edit_script.proofs.reply.write_more_keys.Goals as goal

pub returns-in_err-write_key_after-clause-kept : goal.returns-in_err-write_key_after-clause-kept
returns-in_err-write_key_after-clause-kept c = failed_after c.from_residual.result _ _ _ _ c.loop-key.invariant c.in_err-write_key_after.ensures.kept
