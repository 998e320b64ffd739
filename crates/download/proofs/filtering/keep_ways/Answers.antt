use Rattle.std.proofs.Common.{◌<◌, length, arith}
use Rattle.std.specs.Option.{option_map}
use Rattle.download.specs.Filter.{among, on_side}
use Rattle.download.specs.FilterCode.{way_left}
use Rattle.download.proofs.Batches.{next_filtered}
use Rattle.download.proofs.filtering.keep_ways.Goals as goal

pub loop-batch-preserved : goal.loop-batch-preserved
loop-batch-preserved c =
    let within : c.loop-batch.batch-index < length c.loop-batch.batch-items = omega arith in
    next_filtered (on_side (way_left c.args.wanted.now (option_map among c.args.near.now))) c.args.batches.now.items c.loop-batch.batch-items c.loop-batch.batch-index c.batch-item.result c.keep_ways_of.new.objects within c.keep_ways_of.ensures c.loop-batch.invariant
