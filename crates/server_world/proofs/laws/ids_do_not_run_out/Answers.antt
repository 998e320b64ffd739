use Rattle.server_world.proofs.Enough.{id_given, id_free}
use Rattle.server_world.proofs.laws.ids_do_not_run_out.Goals as goal

pub returns-clause-given : goal.returns-clause-given
returns-clause-given c = id_given

pub returns-clause-free : goal.returns-clause-free
returns-clause-free c = id_free
