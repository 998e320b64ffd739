use Rattle.std.proofs.Common.{◌≡◌, ◌++◌, map, drop}
use Rattle.osm_base.specs.Content.{node}
use Rattle.renamed_content.proofs.contents.renamed_nodes.Given as goal

abbrev pub invariant-loop-id : goal.invariant-loop-id
invariant-loop-id g l =
    l.list.items ++ map (λ i. (g.R.Renaming.key_named l.names (node i)).id) (drop l.id-index l.ids)
    ≡ map (λ i. (g.R.Renaming.key_named l.names (node i)).id) l.ids
