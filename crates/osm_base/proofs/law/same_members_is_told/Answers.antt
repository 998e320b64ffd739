use Rattle.osm_base.proofs.SameLaws.{same_members_decides}
use Rattle.osm_base.specs.Same.{same_members}
use Rattle.osm_base.proofs.Told.{tells}
use Rattle.osm_base.proofs.law.same_members_is_told.Goals as goal

pub returns : goal.returns
returns c = λ a b answer. tells (same_members a b) answer (same_members_decides a b)
