-- The tests of a settled entry, and the keys that enter with it.
use Rattle.std.specs.Prelude.{Bool, if◌then◌else◌, Option, Some, None}
use Rattle.std.specs.Option.{option_or}
use Rattle.osm_base.specs.declared.key.Key.{Key}
use Rattle.osm_table.specs.declared.entry.Entry.{Entry}
use Rattle.osm_table.specs.declared.entry.Entry.TheVariants.{Incomplete}
use Rattle.osm_table.specs.Table.{TableValue, mine_of}
use Rattle.tool_api.specs.declared.refusal.Refusal.{Refusal}
use Rattle.tool_api.specs.Resolve.{unused_test, references_gone_test, settled_fit_test}

-- what a settled entry is refused for: InUse, DeletedObject, Unfit
abbrev pub settled_tests : TableValue → Key → Entry → Option Refusal
settled_tests t k e = option_or (unused_test t k (mine_of e)) (option_or (references_gone_test t k (mine_of e)) (settled_fit_test k (Some e)))

-- what a key has, where it is seen to that it is there
abbrev pub entered : Bool → Option Entry → Option Entry
entered named None = if named then Some Incomplete else None
entered named (Some e) = Some e
