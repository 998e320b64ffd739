use Rattle.osm_base.proofs.SameLaws.{same_text_decides}
use Rattle.osm_base.specs.Same.{same_text}
use Rattle.osm_base.proofs.Told.{tells}
use Rattle.osm_base.proofs.law.same_text_is_told.Goals as goal

pub returns : goal.returns
returns c = λ a b answer. tells (same_text a b) answer (same_text_decides a b)
