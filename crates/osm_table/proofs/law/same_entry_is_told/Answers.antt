use Rattle.osm_base.proofs.Told.{tells}
use Rattle.osm_table.specs.Same.{same_entry}
use Rattle.osm_table.proofs.SameLaws.{same_entry_decides}
use Rattle.osm_table.proofs.law.same_entry_is_told.Goals as goal

pub returns : goal.returns
returns c = λ a b answer. tells (same_entry a b) answer (same_entry_decides a b)
