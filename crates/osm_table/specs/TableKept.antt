-- How a table is kept.
use Rattle.osm_table.specs.Table.{TableValue}
use Rattle.osm_table.specs.Told.{table_told}
use Rattle.osm_table.specs.declared.table.Entries.{Entries}
use Rattle.osm_table.specs.declared.table.Entries.TheVariants.{Own, Told}

-- the table that is kept so
abbrev pub table_of : Entries → TableValue
table_of (Own table) = table
table_of (Told told next) = table_told told.told next
