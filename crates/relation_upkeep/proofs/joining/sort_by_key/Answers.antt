use Rattle.std.proofs.Common.{rules}
use Rattle.std.proofs.lemmas.Cmp.{nat_list_cmp_total}
use Rattle.std.proofs.lemmas.List.Sorted.{ranks_by, answers_always}
use Rattle.osm_base.specs.Tags.{Pair}
use Rattle.relation_upkeep.proofs.joining.sort_by_key.Goals as goal

pub returns-clause-sorted : goal.returns-clause-sorted
returns-clause-sorted c = c.in_ok-sort_by.ensures.sorted _ (ranks_by nat_list_cmp_total (λ (t : Pair). t.0)) (answers_always _ _ _ (λ f a r f' k. search rules))
