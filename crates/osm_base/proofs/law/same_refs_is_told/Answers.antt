use Rattle.osm_base.proofs.SameLaws.{same_refs_decides}
use Rattle.osm_base.specs.Same.{same_refs}
use Rattle.osm_base.proofs.Told.{tells}
use Rattle.osm_base.proofs.law.same_refs_is_told.Goals as goal

pub returns : goal.returns
returns c = λ a b answer. tells (same_refs a b) answer (same_refs_decides a b)
