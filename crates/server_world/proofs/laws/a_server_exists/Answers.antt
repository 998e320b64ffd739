use Rattle.server_world.specs.Bases.{of_bases}
use Rattle.server_world.proofs.Rehearsals.{bases_hold, bases_alone}
use Rattle.server_world.proofs.Unsoundness.{none_sound}
use Rattle.server_world.proofs.laws.a_server_exists.Goals as goal

pub returns-clause-holds : goal.returns-clause-holds
returns-clause-holds c = bases_hold

pub returns-clause-alone : goal.returns-clause-alone
returns-clause-alone c = bases_alone

pub returns-clause-sound : goal.returns-clause-sound
returns-clause-sound c = λ t none. none_sound (of_bases t) none
