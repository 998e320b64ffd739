use Rattle.sample_city.proofs.Led.{grid}
use Rattle.sample_city.proofs.law.nodes_stand_in_a_grid.Goals as goal

pub returns : goal.returns
returns c = grid
