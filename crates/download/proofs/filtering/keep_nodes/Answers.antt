use Rattle.std.proofs.Common.{◌<◌, length, arith}
use Rattle.download.specs.Filter.{among}
use Rattle.download.specs.FilterCode.{is_left}
use Rattle.download.proofs.Batches.{next_filtered}
use Rattle.download.proofs.filtering.keep_nodes.Goals as goal

pub loop-batch-preserved : goal.loop-batch-preserved
loop-batch-preserved c =
    let within : c.loop-batch.batch-index < length c.loop-batch.batch-items = omega arith in
    next_filtered (is_left c.args.area c.args.wanted.now (among c.args.of_ways.now)) c.args.batches.now.items c.loop-batch.batch-items c.loop-batch.batch-index c.batch-item.result c.keep_nodes_of.new.objects within c.keep_nodes_of.ensures c.loop-batch.invariant
