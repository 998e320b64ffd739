use Rattle.std.specs.Option.{option_map}
use Rattle.download.specs.Filter.{among, on_side}
use Rattle.download.specs.FilterCode.{way_left}
use Rattle.download.proofs.Batches.{AreFiltered}
use Rattle.download.proofs.filtering.keep_ways.Given as goal

abbrev pub invariant-loop-batch : goal.invariant-loop-batch
invariant-loop-batch l = AreFiltered (on_side (way_left l.wanted (option_map among l.near))) l.fn.batches.items l.batch-items l.batch-index
