-- The change of one entry.
use Rattle.std.specs.Prelude.{Option, Some, None}
use Rattle.osm_base.specs.declared.key.Key.{Key}
use Rattle.osm_table.specs.declared.entry.Entry.{Entry}
use Rattle.dataset.specs.declared.edit.Kept.{Kept}
use Rattle.dataset.specs.declared.edit.Kept.TheVariants.{Comes, Goes, Changes}

-- what a key had, and what it gets; none is a key that isn't in the table
pub record Edit : Type 0 where
  pub key : Key
  pub before : Option Entry
  pub after : Option Entry

-- an edit, read off what is kept
abbrev pub edit_kept : Kept → Edit
edit_kept (Comes kind id after) = record { key = record { kind = kind; id = id }; before = None; after = Some after }
edit_kept (Goes kind id before) = record { key = record { kind = kind; id = id }; before = Some before; after = None }
edit_kept (Changes kind id entries) = record { key = record { kind = kind; id = id }; before = Some entries.before; after = Some entries.after }
