use Rattle.std.proofs.Common.{◌<◌, ◌∙◌, List, length, ap, arith, filter, fold}
use Rattle.opl_line.specs.declared.object.OplObject.{OplObject}
use Rattle.opl_file.proofs.Batches.{next_batch}
use Rattle.download.specs.Tell.{references}
use Rattle.download.specs.Filter.{on_side}
use Rattle.download.specs.FilterCode.{with_key, is_way}
use Rattle.download.proofs.Batches.{refs_join}
use Rattle.download.proofs.filtering.nodes_of_ways.Goals as goal

pub loop-batch-preserved : goal.loop-batch-preserved
loop-batch-preserved c =
    let within : c.loop-batch.batch-index < length c.args.batches.now = omega arith in
    next_batch with_key (λ (os : List OplObject). references (filter (on_side is_way) os)) (refs_join (on_side is_way)) c.args.batches.now c.loop-batch.batch-index c.batch-item.result c.loop-batch.keys c.put_of_ways.new.keys within c.batch-item.is
    (c.in_ok-put_of_ways.ensures ∙ ap (λ (os : List OplObject). fold with_key c.loop-batch.keys (references (filter (on_side is_way) os))) c.deref.ensures.value)
    ∙ c.loop-batch.invariant
