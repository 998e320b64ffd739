-- The parts of an upload.
use Rattle.std.specs.Prelude.{Bool, false, List}
use Rattle.std.specs.List.{filter}
use Rattle.osm_base.specs.declared.key.Key.{Key}
use Rattle.osm_base.specs.declared.key.Kind.{Kind}
use Rattle.osm_base.specs.declared.key.Kind.TheVariants.{Node, Way, Relation}
use Rattle.osm_table.specs.declared.entry.Entry.{Entry}
use Rattle.osm_table.specs.Table.{TableValue, is_changed, keys_by_rank}
use Rattle.upload_order.specs.declared.part.Part.{Part}
use Rattle.upload_order.specs.declared.part.Part.TheVariants.{RisingNodes, RisingWays, RisingRelations, Updates, FallingRelations, FallingWays, FallingNodes}
use Rattle.upload_order.specs.Kinds.{at_key, is_rising, is_update, is_falling}

abbrev pub is_part : Part → Kind → Entry → Bool
is_part RisingNodes Node e = is_rising e
is_part RisingNodes kind e = false
is_part RisingWays Way e = is_rising e
is_part RisingWays kind e = false
is_part RisingRelations Relation e = is_rising e
is_part RisingRelations kind e = false
is_part Updates kind e = is_update e
is_part FallingRelations Relation e = is_falling e
is_part FallingRelations kind e = false
is_part FallingWays Way e = is_falling e
is_part FallingWays kind e = false
is_part FallingNodes Node e = is_falling e
is_part FallingNodes kind e = false

-- whether a key's object is in the part
abbrev pub in_part : TableValue → Part → Key → Bool
in_part t part k = at_key t (is_part part k.kind) k

-- the keys of the part, by rank
abbrev pub keys_in : TableValue → Part → List Key
keys_in t part = filter (in_part t part) (keys_by_rank t)

-- the keys of all that is changed, by rank: each part is among them
abbrev pub changed_keys : TableValue → List Key
changed_keys t = filter (at_key t is_changed) (keys_by_rank t)
