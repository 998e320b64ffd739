-- Words of the laws of merged tables.
--
-- For example where w1 was changed here and is told changed too, `KeepsChanges` lets it have mine as before, or what is
-- joined of both.
use Rattle.std.specs.Prelude.{◌≡◌, ◌⊎◌, true, Option, Some, None}
use Rattle.std.specs.FinMap as fin
use Rattle.osm_base.specs.declared.key.Key.{Key}
use Rattle.osm_base.specs.declared.content.Content.{Content}
use Rattle.osm_table.specs.declared.entry.Base.{Base}
use Rattle.osm_table.specs.declared.entry.Conflict.{Conflict}
use Rattle.osm_table.specs.declared.entry.Entry.{Entry}
use Rattle.osm_table.specs.declared.entry.Entry.TheVariants.{Known}
use Rattle.osm_table.specs.Table.{TableValue, entry_of, held_by, is_changed}
use Rattle.osm_table.specs.Told.{ToldEntries}
use Rattle.dataset.specs.Exact.{mine_at}
use Rattle.merge_cases.specs.declared.verdict.Verdict.TheVariants.{Join}
use Rattle.tool_api.specs.Closing.{in_conflict}
use Rattle.tool_api.specs.Staged.{verdict_at, theirs_at, all_joined}
use Rattle.tool_api.specs.Merged.{merged}

-- nothing is told of the key
abbrev pub IsUntold : ToldEntries → Key → Type 0
IsUntold m k = fin.get m k ≡ None

-- the merged table has under the key what the table had
abbrev pub Stays : TableValue → ToldEntries → Key → Type 0
Stays t m k = entry_of (merged t m) k ≡ entry_of t k

-- the table has this entry under the key, and it was changed here
pub record WasChanged (t : TableValue) (k : Key) (e : Entry) : Type 0 where
  pub there : entry_of t k ≡ Some e
  pub changed : is_changed e ≡ true

-- the merged table has this content under the key
abbrev pub KeepsContent : TableValue → ToldEntries → Key → Content → Type 0
KeepsContent t m k mine = mine_at (entry_of (merged t m) k) ≡ Some mine

-- its case is Join, and the merged table has what is joined of this base, mine and theirs
abbrev pub IsJoined : TableValue → ToldEntries → Key → Base → Content → Type 0
IsJoined t m k base mine = (verdict_at t m k ≡ Join) × (mine_at (entry_of (merged t m) k) ≡ all_joined (held_by base) (Some mine) (held_by (theirs_at m k)))

-- An object that was changed here and lives keeps its content, or has what is joined of both sides'.
abbrev pub KeepsChanges : TableValue → ToldEntries → Type 0
KeepsChanges t m =
    (k : Key) (base : Base) (mine : Content) (conflict : Option Conflict) → WasChanged t k (Known base (Some mine) conflict) → KeepsContent t m k mine ⊎ IsJoined t m k base mine

-- no object lives under the key in the merged table
abbrev pub StaysDeleted : TableValue → ToldEntries → Key → Type 0
StaysDeleted t m k = mine_at (entry_of (merged t m) k) ≡ None

-- it is in conflict in the merged table
abbrev pub IsInConflict : TableValue → ToldEntries → Key → Type 0
IsInConflict t m k = in_conflict (entry_of (merged t m) k) ≡ true

-- One that was deleted here is still deleted, or is in conflict.
abbrev pub KeepsDeletions : TableValue → ToldEntries → Type 0
KeepsDeletions t m =
    (k : Key) (base : Base) (conflict : Option Conflict) → WasChanged t k (Known base None conflict) → StaysDeleted t m k ⊎ IsInConflict t m k
