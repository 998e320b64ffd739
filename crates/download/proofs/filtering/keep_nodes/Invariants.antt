use Rattle.download.specs.Filter.{among}
use Rattle.download.specs.FilterCode.{is_left}
use Rattle.download.proofs.Batches.{AreFiltered}
use Rattle.download.proofs.filtering.keep_nodes.Given as goal

abbrev pub invariant-loop-batch : goal.invariant-loop-batch
invariant-loop-batch l = AreFiltered (is_left l.area l.wanted (among l.of_ways)) l.fn.batches.items l.batch-items l.batch-index
