use Rattle.osm_base.specs.Rank.{is_key}
use Rattle.osm_base.proofs.RisingKeys.{one_key, key_itself}
use Rattle.closure.proofs.Chains.{ready_of, ready_in}
use Rattle.closure.proofs.law.ready_ones_are_least.Goals as goal

pub returns : goal.returns
returns c = λ needs all within k i. (ready_of is_key key_itself one_key needs all k, λ r. ready_in is_key key_itself one_key needs all within k r i)
