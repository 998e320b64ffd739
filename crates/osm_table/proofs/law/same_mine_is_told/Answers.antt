use Rattle.osm_base.proofs.Told.{tells}
use Rattle.osm_table.specs.Same.{same_mine}
use Rattle.osm_table.proofs.SameLaws.{same_mine_decides}
use Rattle.osm_table.proofs.law.same_mine_is_told.Goals as goal

pub returns : goal.returns
returns c = λ a b answer. tells (same_mine a b) answer (same_mine_decides a b)
