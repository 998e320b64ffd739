use Rattle.download.specs.Filter.{among, on_side}
use Rattle.download.specs.FilterCode.{relation_left}
use Rattle.download.proofs.Batches.{AreFiltered}
use Rattle.download.proofs.filtering.keep_relations.Given as goal

abbrev pub invariant-loop-batch : goal.invariant-loop-batch
invariant-loop-batch l = AreFiltered (on_side (relation_left (among l.places) (among l.relations))) l.fn.batches.items l.batch-items l.batch-index
