-- The objects in conflict.
use Rattle.std.specs.Prelude.{List}
use Rattle.std.specs.List.{filter}
use Rattle.osm_base.specs.declared.key.Key.{Key}
use Rattle.osm_table.specs.Table.{TableValue, entry_of, keys_by_rank}
use Rattle.tool_api.specs.Closing.{in_conflict}

-- The keys of a table's objects that are in conflict, by rank.
abbrev pub conflict_keys : TableValue → List Key
conflict_keys t = filter (λ k. in_conflict (entry_of t k)) (keys_by_rank t)
