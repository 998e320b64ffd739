use Rattle.osm_base.proofs.SameLaws.{same_coord_decides}
use Rattle.osm_base.specs.Same.{same_coord}
use Rattle.osm_base.proofs.Told.{tells}
use Rattle.osm_base.proofs.law.same_coord_is_told.Goals as goal

pub returns : goal.returns
returns c = λ a b answer. tells (same_coord a b) answer (same_coord_decides a b)
