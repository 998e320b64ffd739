use Rattle.std.proofs.Common.{◌≡◌, ◌++◌, map, drop}
use Rattle.osm_base.specs.Content.{node}
use Rattle.relation_upkeep.proofs.replace.node_set.Given as goal

abbrev pub invariant-loop-id : goal.invariant-loop-id
invariant-loop-id l = l.keys.items ++ map node (drop l.id-index l.ids) ≡ map node l.ids
