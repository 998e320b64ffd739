use Rattle.osm_base.proofs.Told.{tells}
use Rattle.merge_cases.specs.Join.{same_kind}
use Rattle.merge_cases.proofs.Sames.{same_kind_decides}
use Rattle.merge_cases.proofs.law.same_kind_is_told.Goals as goal

pub returns : goal.returns
returns c = λ a b answer. tells (same_kind a b) answer (same_kind_decides a b)
