use Rattle.std.proofs.Common.{[], ◌∙◌, ap}
use Rattle.osm_table.specs.Table.{is_changed, keys_by_rank}
use Rattle.upload_order.specs.Kinds.{at_key}
use Rattle.upload_order.specs.Marked.{with_marked}
use Rattle.upload_order.specs.Refused.{is_open}
use Rattle.upload_order.proofs.Vouchers.{marked_is}
use Rattle.upload_order.proofs.marking.marked.Goals as goal

pub returns-clause-open : goal.returns-clause-open
returns-clause-open c =
    let t = c.args.ds.now in
    c.in_ok-marked.ensures.open ∙ ap (with_marked (at_key t is_open) []) (c.as_slice.ensures ∙ c.in_ok-keys.ensures) ∙ marked_is (at_key t is_open) (keys_by_rank t)

pub returns-clause-changed : goal.returns-clause-changed
returns-clause-changed c =
    let t = c.args.ds.now in
    c.in_ok-marked.ensures.changed ∙ ap (with_marked (at_key t is_changed) []) (c.as_slice.ensures ∙ c.in_ok-keys.ensures) ∙ marked_is (at_key t is_changed) (keys_by_rank t)
