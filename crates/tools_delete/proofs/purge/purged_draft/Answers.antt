use Rattle.std.proofs.Common.{◌<◌, arith, ap, length, refl, []}
use Rattle.osm_table.specs.Table.{TableValue}
use Rattle.tool_api.specs.Changes.{changed}
use Rattle.tool_api.proofs.Looks.{from_none, one_more}
use Rattle.tools_delete.specs.Purged.{purged}
use Rattle.tools_delete.proofs.purge.purged_draft.Goals as goal

pub loop-key-init : goal.loop-key-init
loop-key-init c =
    let gone = purged c.args.ds.now c.args.named.now in
    ap (λ (t : TableValue). changed t gone c.args.keys.now) (from_none c.args.ds.now gone [] _ _ c.new-draft.ensures refl)

pub loop-key-preserved : goal.loop-key-preserved
loop-key-preserved c = one_more c.args.ds.now _ _ _ _ _ _ _ _ (let h : c.loop-key.key-index < length c.args.keys.now = omega arith in h) c.purged-after.ensures c.in_ok-put.ensures.ok c.loop-key.invariant
