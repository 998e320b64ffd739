use Rattle.std.proofs.Common.{◌+◌}
use Rattle.osm_base.specs.Meta.{empty_meta}
use Rattle.osm_table.specs.declared.entry.Base.TheVariants.{Live, Gone}
use Rattle.osm_table.specs.Table.{entry_of}
use Rattle.osm_table.proofs.Each.{get_with}
use Rattle.placeholder.specs.Confirmed.{based_on}
use Rattle.placeholder.proofs.LookUps.{made_at}
use Rattle.placeholder.proofs.laws.confirmed_by_key.Goals as goal

pub returns-clause-made : goal.returns-clause-made
returns-clause-made c = λ t k content id j. made_at t k content id j

pub returns-clause-modified : goal.returns-clause-modified
returns-clause-modified c = λ t k version content id j. get_with t k (based_on (Live (version + 1) content empty_meta) (entry_of t k)) j

pub returns-clause-deleted : goal.returns-clause-deleted
returns-clause-deleted c = λ t k version id j. get_with t k (based_on (Gone (version + 1) empty_meta) (entry_of t k)) j
