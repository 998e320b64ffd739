use Rattle.std.proofs.Common.{[], ◌∷◌, ◌++◌, cond, refl, arith}
use Rattle.osm_table.specs.Table.{is_incomplete}
use Rattle.upload_order.specs.Kinds.{at_key}
use Rattle.upload_order.specs.Marked.{with_marked}
use Rattle.upload_order.proofs.Loops.{one_more, pushed_if}
use Rattle.upload_order.proofs.backing.push_unknown.Goals as goal

pub loop-of-preserved : goal.loop-of-preserved
loop-of-preserved c =
    let test = at_key c.args.ds.now is_incomplete in
    let list = c.loop-of.unknown.items in
    one_more (with_marked test) (λ ks k. cond (test k) (ks ++ k ∷ []) ks) (λ s x xs. refl) c.args.refs.now c.loop-of.of-index _ list c.push_if.new.keys.items _ (omega arith)
    (pushed_if list c.push_if.new.keys.items _ _ _ c.in_ok-push_if.ensures c.is_incomplete.ensures) c.loop-of.invariant
