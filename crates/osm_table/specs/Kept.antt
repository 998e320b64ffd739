-- How a table keeps an entry, and how it lends one.
use Rattle.std.specs.Prelude.{None}
use Rattle.osm_table.specs.declared.entry.Entry.{Entry}
use Rattle.osm_table.specs.declared.entry.Entry.TheVariants.{Incomplete, Known}
use Rattle.osm_table.specs.declared.shared_entry.Kept.{Kept}
use Rattle.osm_table.specs.declared.shared_entry.Kept.TheVariants as kept
use Rattle.osm_table.specs.Table.{held_by}

-- the entry that is kept so
abbrev pub entry_kept : Kept → Entry
entry_kept kept.Incomplete = Incomplete
entry_kept (kept.Unchanged base) = Known base (held_by base) None
entry_kept (kept.Other parts) = Known parts.value.base parts.value.mine parts.value.conflict
