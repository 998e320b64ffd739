use Rattle.std.proofs.Common.{◌≡◌, drop, map}
use Rattle.osm_base.specs.Content.{node}
use Rattle.server_world.specs.Putting.{with_mentions}
use Rattle.server_world.proofs.bases.put_nodes.Given as goal

abbrev pub invariant-loop-id : goal.invariant-loop-id
invariant-loop-id l = with_mentions l.ds l.objects (map node (drop l.id-index l.ids)) ≡ with_mentions l.ds l.initial.objects (map node l.ids)
