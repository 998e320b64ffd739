use Rattle.std.proofs.Common.{refl, ap, ◌∙◌, arith}
use Rattle.osm_table.specs.Table.{entry_of, is_incomplete}
use Rattle.upload_order.specs.Kinds.{at_key}
use Rattle.upload_order.specs.Marked.{with_marked, with_unknown}
use Rattle.upload_order.specs.Refused.{refs_sent}
use Rattle.upload_order.proofs.Loops.{one_more}
use Rattle.upload_order.proofs.backing.list_unknown.Goals as goal

pub loop-key-preserved : goal.loop-key-preserved
loop-key-preserved c =
    let t = c.args.ds.now in
    let list = c.loop-key.unknown.items in
    one_more (with_unknown t) (λ ks k. with_marked (at_key t is_incomplete) ks (refs_sent (entry_of t k))) (λ s x xs. refl) c.args.changed.now c.loop-key.key-index _ list c.push_unknown.new.unknown.items _ (omega arith)
    (c.in_ok-push_unknown.ensures ∙ ap (with_marked (at_key t is_incomplete) list) (c.deref.ensures.value ∙ c.in_ok-list_sent.ensures)) c.loop-key.invariant
