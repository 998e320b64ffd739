use Rattle.std.proofs.Common.{◌≡◌, ◌&&◌, drop}
use Rattle.osm_table.specs.Table.{is_incomplete}
use Rattle.upload_order.specs.Counts.{put_where}
use Rattle.upload_order.specs.Kinds.{at_key}
use Rattle.upload_order.specs.Refused.{keeps_at}
use Rattle.upload_order.proofs.refused.put_kept.Given as goal

abbrev pub invariant-loop-of : goal.invariant-loop-of
invariant-loop-of l = put_where (λ r. at_key l.ds is_incomplete r && keeps_at l.ds l.key r) l.vouched (drop l.of-index l.refs) ≡ put_where (λ r. at_key l.ds is_incomplete r && keeps_at l.ds l.key r) l.fn.vouched l.refs
