use Rattle.std.proofs.Common.{[], ◌∷◌, ◌++◌, false, cond, refl, ap, ◌∙◌, arith}
use Rattle.std.specs.Option.{option_map_or}
use Rattle.osm_table.specs.Table.{is_changed}
use Rattle.upload_order.specs.Kinds.{at_key}
use Rattle.upload_order.specs.Marked.{with_marked}
use Rattle.upload_order.specs.Refused.{is_open}
use Rattle.upload_order.proofs.Loops.{one_more, pushed_if}
use Rattle.upload_order.proofs.marking.marked_among.Goals as goal

pub loop-key-preserved : goal.loop-key-preserved
loop-key-preserved c =
    let t = c.args.ds.now in
    let ks = c.args.keys.now in
    let i = c.loop-key.key-index in
    let opened = c.loop-key.open.items in
    let changed = c.loop-key.changed.items in (
      one_more (with_marked (at_key t is_open)) (λ list k. cond (at_key t is_open k) (list ++ k ∷ []) list) (λ s x xs. refl) ks i _ opened c.push_if.new.keys.items _ (omega arith)
          (pushed_if opened c.push_if.new.keys.items _ _ _ c.in_ok-push_if.ensures (c.is_open.ensures ∙ ap (λ o. option_map_or is_open o false) c.entry_from-entry.ensures)) c.loop-key.invariant.0,
      one_more (with_marked (at_key t is_changed)) (λ list k. cond (at_key t is_changed k) (list ++ k ∷ []) list) (λ s x xs. refl) ks i _ changed c.push_if-in-loop-key.new.keys.items _ (omega arith)
          (pushed_if changed c.push_if-in-loop-key.new.keys.items _ _ _ c.in_ok-push_if-2.ensures (c.is_changed.ensures ∙ ap (λ o. option_map_or is_changed o false) c.entry_from-entry.ensures)) c.loop-key.invariant.1,
    )
