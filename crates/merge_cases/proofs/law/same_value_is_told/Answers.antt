use Rattle.osm_base.proofs.Told.{tells}
use Rattle.merge_cases.specs.Join.{same_value}
use Rattle.merge_cases.proofs.Sames.{same_value_decides}
use Rattle.merge_cases.proofs.law.same_value_is_told.Goals as goal

pub returns : goal.returns
returns c = λ a b answer. tells (same_value a b) answer (same_value_decides a b)
