-- How the edits of a patch are kept.
use Rattle.std.specs.Prelude.{List}
use Rattle.std.specs.FinMap as fin
use Rattle.osm_table.specs.Table.{TableValue}
use Rattle.osm_table.specs.Told.{ToldEntries, table_told}
use Rattle.dataset.specs.Edit.{Edit}
use Rattle.dataset.specs.Diff.{diff}
use Rattle.dataset.specs.declared.patch.Edits.{Edits}
use Rattle.dataset.specs.declared.patch.Edits.TheVariants.{Listed, Told}

-- a table without objects
abbrev pub nothing : TableValue
nothing = record { entries = fin.empty; next = 1 }

-- the edits by which a table without objects gets all that is told
abbrev pub edits_told : ToldEntries → List Edit
edits_told told = (diff nothing (table_told told 1)).edits

abbrev pub edits_kept : Edits → List Edit
edits_kept (Listed edits) = edits.items
edits_kept (Told told) = edits_told told.told
