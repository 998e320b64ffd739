-- An entry that is lent in its parts.
use Rattle.std.specs.Option.{option_copied}
use Rattle.osm_table.specs.declared.entry.Entry.{Entry}
use Rattle.osm_table.specs.declared.entry.Entry.TheVariants.{Incomplete, Known}
use Rattle.osm_table.specs.declared.shared_entry.EntryParts.{EntryParts}
use Rattle.osm_table.specs.declared.shared_entry.EntryParts.TheVariants as parts

-- the entry whose parts are lent
abbrev pub entry_lent : EntryParts → Entry
entry_lent parts.Incomplete = Incomplete
entry_lent (parts.Known base mine conflict) = Known base.now (option_copied mine) (option_copied conflict)
