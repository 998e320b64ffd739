use Rattle.std.proofs.Common.{◌≡◌, drop, map, not}
use Rattle.std.specs.List.{find}
use Rattle.osm_base.specs.Content.{node}
use Rattle.upload_order.specs.World.{reaches}
use Rattle.server_world.proofs.world.World.bad_node.Given as goal

abbrev pub invariant-loop-id : goal.invariant-loop-id
invariant-loop-id l = find (λ r. not (reaches l.self r)) (map node (drop l.id-index l.ids)) ≡ find (λ r. not (reaches l.self r)) (map node l.ids)
