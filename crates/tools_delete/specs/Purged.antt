-- What purging makes of one key, in the words of the job's definition.
use Rattle.std.specs.Prelude.{if◌then◌else◌, List, Option, Some, None}
use Rattle.osm_base.specs.declared.key.Key.{Key}
use Rattle.osm_table.specs.declared.entry.Entry.{Entry}
use Rattle.osm_table.specs.declared.entry.Entry.TheVariants.{Incomplete}
use Rattle.osm_table.specs.Table.{TableValue, entry_of}
use Rattle.tool_api.specs.declared.refusal.Refusal.{Refusal}
use Rattle.tool_api.specs.Checks.{is_new, use_test}
use Rattle.tool_api.specs.Gone.{is_used}

-- InUse, of a new object alone
abbrev pub new_use_test : TableValue → List Key → Key → Option Refusal
new_use_test t named k = if is_new (entry_of t k) then use_test t named k else None

-- Incomplete where a user that isn't named stands, else no entry
abbrev pub purged : TableValue → List Key → Key → Option Entry
purged t named k = if is_used t named k then Some Incomplete else None
