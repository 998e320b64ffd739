use Rattle.osm_base.proofs.SameLaws.{same_content_decides}
use Rattle.osm_base.specs.Same.{same_content}
use Rattle.osm_base.proofs.Told.{tells}
use Rattle.osm_base.proofs.law.same_content_is_told.Goals as goal

pub returns : goal.returns
returns c = λ a b answer. tells (same_content a b) answer (same_content_decides a b)
