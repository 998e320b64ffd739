use Rattle.std.proofs.Common.{◌<◌, ◌∙◌, List, length, ap, arith, filter, fold}
use Rattle.opl_line.specs.declared.object.OplObject.{OplObject}
use Rattle.opl_file.specs.Objects.{keys_of}
use Rattle.opl_file.proofs.Batches.{next_batch}
use Rattle.download.specs.Filter.{among, is_related, on_side}
use Rattle.download.specs.FilterCode.{with_key}
use Rattle.download.proofs.Batches.{keys_join}
use Rattle.download.proofs.filtering.relations_to.Goals as goal

pub loop-batch-preserved : goal.loop-batch-preserved
loop-batch-preserved c =
    let within : c.loop-batch.batch-index < length c.args.batches.now = omega arith in
    next_batch with_key (λ (os : List OplObject). keys_of (filter (on_side (is_related (among c.args.places.now))) os)) (keys_join (on_side (is_related (among c.args.places.now)))) c.args.batches.now c.loop-batch.batch-index c.batch-item.result c.loop-batch.keys c.put_relations.new.keys within c.batch-item.is
    (c.in_ok-put_relations.ensures ∙ ap (λ (os : List OplObject). fold with_key c.loop-batch.keys (keys_of (filter (on_side (is_related (among c.args.places.now))) os))) c.deref.ensures.value)
    ∙ c.loop-batch.invariant
