use Rattle.osm_base.specs.Rank.{is_key}
use Rattle.osm_base.proofs.RisingKeys.{one_key, key_itself}
use Rattle.closure.proofs.Chains.{chain_of, of_chain}
use Rattle.closure.proofs.law.ends_of_chains_are_least.Goals as goal

pub returns : goal.returns
returns c = λ start leads all first then k. (chain_of is_key key_itself one_key start leads all k, of_chain is_key key_itself one_key start leads all first then k)
