use Rattle.std.proofs.Common.{◌≡◌, drop, map, not, is_some}
use Rattle.std.specs.List.{list_any}
use Rattle.osm_base.specs.Content.{node}
use Rattle.upload_order.specs.World.{content_at}
use Rattle.server_world.proofs.world.World.lacks_node.Given as goal

abbrev pub invariant-loop-id : goal.invariant-loop-id
invariant-loop-id l = list_any (λ r. not (is_some (content_at l.self r))) (map node (drop l.id-index l.ids)) ≡ list_any (λ r. not (is_some (content_at l.self r))) (map node l.ids)
