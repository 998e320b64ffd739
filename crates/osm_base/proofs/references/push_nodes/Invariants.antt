use Rattle.std.proofs.Common.{◌≡◌, ◌++◌, take, map}
use Rattle.osm_base.specs.Content.{node}
use Rattle.osm_base.proofs.references.push_nodes.Given as goal

abbrev pub invariant-loop-id : goal.invariant-loop-id
invariant-loop-id l = l.keys.items ≡ l.initial.keys.items ++ map node (take l.id-index l.ids)
