use Rattle.osm_base.proofs.Told.{tells}
use Rattle.merge_cases.specs.Join.{same_pick}
use Rattle.merge_cases.proofs.Sames.{same_pick_decides}
use Rattle.merge_cases.proofs.law.same_pick_is_told.Goals as goal

pub returns : goal.returns
returns c = λ a b answer. tells (same_pick a b) answer (same_pick_decides a b)
