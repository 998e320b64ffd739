use Rattle.server_world.proofs.Picking.{rehearsed_run}
use Rattle.server_world.proofs.laws.rehearsal_is_run.Goals as goal

pub returns : goal.returns
returns c = rehearsed_run
