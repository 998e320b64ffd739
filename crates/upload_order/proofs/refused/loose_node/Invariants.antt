use Rattle.std.proofs.Common.{◌≡◌, drop, map}
use Rattle.std.specs.List.{find}
use Rattle.osm_base.specs.Content.{node}
use Rattle.upload_order.specs.Refused.{is_loose_in}
use Rattle.upload_order.proofs.refused.loose_node.Given as goal

abbrev pub invariant-loop-id : goal.invariant-loop-id
invariant-loop-id l = find (is_loose_in l.ds l.vouched) (map node (drop l.id-index l.ids)) ≡ find (is_loose_in l.ds l.vouched) (map node l.ids)
