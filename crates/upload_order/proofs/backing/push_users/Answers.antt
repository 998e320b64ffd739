use Rattle.std.proofs.Common.{◌++◌, refl, ap, ◌∙◌, arith}
use Rattle.osm_table.specs.Table.{users}
use Rattle.upload_order.specs.Marked.{with_users}
use Rattle.upload_order.proofs.Loops.{one_more}
use Rattle.upload_order.proofs.backing.push_users.Goals as goal

pub loop-key-preserved : goal.loop-key-preserved
loop-key-preserved c =
    let t = c.args.ds.now in
    let list = c.loop-key.keys.items in
    one_more (with_users t) (λ ks k. ks ++ users t k) (λ s x xs. refl) c.args.of.now c.loop-key.key-index _ list c.extend_from_slice.new.self.items _ (omega arith)
    (c.in_ok-extend_from_slice.ensures.items ∙ ap (λ us. list ++ us) c.users.ensures) c.loop-key.invariant
