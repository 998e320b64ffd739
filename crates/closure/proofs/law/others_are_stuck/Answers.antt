use Rattle.osm_base.specs.Rank.{is_key}
use Rattle.osm_base.proofs.RisingKeys.{one_key, key_itself}
use Rattle.std.proofs.lemmas.Bool.{false_from_ne_true}
use Rattle.closure.proofs.Chains.{stuck_needs, stuck_greatest}
use Rattle.closure.proofs.law.others_are_stuck.Goals as goal

pub returns-clause-stuck : goal.returns-clause-stuck
returns-clause-stuck c = stuck_needs is_key key_itself one_key

pub returns-clause-greatest : goal.returns-clause-greatest
returns-clause-greatest c = λ needs all set h k i. false_from_ne_true (set k) (stuck_greatest is_key key_itself one_key needs all set h k i)
