-- The nodes that move with objects.
--
-- For example with w5 Nn1,n2,n1 and n2 the nodes are n1, n2, n1 and n2, in the order found.
use Rattle.std.specs.Prelude.{List, [], ◌∷◌, ◌++◌, map, Option, Some, None}
use Rattle.osm_base.specs.Content.{node}
use Rattle.osm_base.specs.declared.key.Key.{Key}
use Rattle.osm_base.specs.declared.content.Content.{Content}
use Rattle.osm_base.specs.declared.content.Content.TheVariants.{Node, Way, Relation}
use Rattle.osm_table.specs.Table.{TableValue}
use Rattle.tool_api.specs.Changes.{content_of}

-- a node itself, and the nodes of a way
abbrev pub moved_with : Key → Option Content → List Key
moved_with key None = []
moved_with key (Some (Node tags at)) = key ∷ []
moved_with key (Some (Way tags refs)) = map node refs
moved_with key (Some (Relation tags members)) = []

-- object by object
abbrev pub all_moved_with : TableValue → List Key → List Key
all_moved_with t [] = []
all_moved_with t (k ∷ ks) = moved_with k (content_of t k) ++ all_moved_with t ks
