use Rattle.osm_base.proofs.Told.{tells}
use Rattle.osm_table.specs.Same.{same_why}
use Rattle.osm_table.proofs.SameLaws.{same_why_decides}
use Rattle.osm_table.proofs.law.same_why_is_told.Goals as goal

pub returns : goal.returns
returns c = λ a b answer. tells (same_why a b) answer (same_why_decides a b)
