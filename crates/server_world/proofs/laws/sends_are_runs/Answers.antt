use Rattle.server_world.proofs.Picking.{none_runs, refused_runs, taken_runs}
use Rattle.server_world.proofs.laws.sends_are_runs.Goals as goal

pub returns-clause-none : goal.returns-clause-none
returns-clause-none c = none_runs

pub returns-clause-refused : goal.returns-clause-refused
returns-clause-refused c = refused_runs

pub returns-clause-taken : goal.returns-clause-taken
returns-clause-taken c = taken_runs
