use Rattle.osm_base.proofs.SameLaws.{same_meta_decides}
use Rattle.osm_base.specs.Same.{same_meta}
use Rattle.osm_base.proofs.Told.{tells}
use Rattle.osm_base.proofs.law.same_meta_is_told.Goals as goal

pub returns : goal.returns
returns c = λ a b answer. tells (same_meta a b) answer (same_meta_decides a b)
