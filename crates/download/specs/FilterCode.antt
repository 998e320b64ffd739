-- What the passes of the filter leave of a file, and the sets of keys that they fill.
use Rattle.std.specs.Prelude.{Bool, true, false, ◌||◌, ◌++◌, if◌then◌else◌, List, [], ◌∷◌, Option, Some, fold}
use Rattle.osm_base.specs.Tags.{Pair}
use Rattle.osm_base.specs.declared.key.Key.{Key}
use Rattle.osm_base.specs.declared.area.Area.{Area}
use Rattle.osm_base.specs.declared.content.Content.{Content}
use Rattle.osm_base.specs.declared.content.Content.TheVariants.{Node, Way, Relation}
use Rattle.opl_line.specs.declared.object.OplObject.{OplObject}
use Rattle.download.specs.Filter.{among, is_kept_way, is_kept_node, is_related}

-- the keys with one more, which comes last unless it is there
abbrev pub with_key : List Key → Key → List Key
with_key keys key = if among keys key then keys else (keys ++ key ∷ [])

-- each of the keys once
abbrev pub key_set : List Key → List Key
key_set keys = fold with_key [] keys

abbrev pub is_way : Option Content → Bool
is_way (Some (Way tags refs)) = true
is_way side = false

-- a node or a way
abbrev pub is_place : Option Content → Bool
is_place (Some (Node tags at)) = true
is_place (Some (Way tags refs)) = true
is_place side = false

-- the pass over the ways leaves the kept ways, and all that isn't a way
abbrev pub way_left : List Pair → Option (Key → Bool) → Option Content → Bool
way_left wanted near (Some (Way tags refs)) = is_kept_way wanted near (Some (Way tags refs))
way_left wanted near side = true

-- the pass over the nodes leaves the kept nodes, and all that isn't a node
abbrev pub node_left : Option Area → List Pair → Bool → Option Content → Bool
node_left area wanted of_way (Some (Node tags at)) = is_kept_node area wanted of_way (Some (Node tags at))
node_left area wanted of_way side = true

abbrev pub is_left : Option Area → List Pair → (Key → Bool) → OplObject → Bool
is_left area wanted of_ways o = node_left area wanted (of_ways o.key) o.side

-- the pass over the relations leaves the kept relations, and all that isn't a relation
abbrev pub relation_left : (Key → Bool) → (Key → Bool) → Option Content → Bool
relation_left places relations (Some (Relation tags members)) = is_related places (Some (Relation tags members)) || is_related relations (Some (Relation tags members))
relation_left places relations side = true
