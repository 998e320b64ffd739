-- The text of `print`, and what is written of one object by `print`, `conflicts`, `save` and `find`.
use Rattle.std.specs.Prelude.{ℕ, List, [], ◌++◌, Option, Some, flat_map}
use Rattle.osm_base.specs.declared.key.Key.{Key}
use Rattle.osm_table.specs.Table.{TableValue, entry_of, keys_by_rank}
use Rattle.osm_table.specs.declared.entry.Entry.{Entry}
use Rattle.osm_table.specs.declared.entry.Entry.TheVariants.{Known}
use Rattle.conflict.specs.Shown.{conflict_text, known_text}
use Rattle.saved_session.specs.Saved.{saved_entry, saved_end}
use Rattle.edit_steps.specs.Searched.{key_line}
use Rattle.edit_steps.specs.declared.sending.Lines.{Lines}
use Rattle.edit_steps.specs.declared.sending.Lines.TheVariants as lines

-- the line of an entry; what isn't known has none
abbrev pub shown : Key → Option Entry → List ℕ
shown key (Some (Known base mine conflict)) = known_text key base mine
shown key e = []

abbrev pub entry_text : TableValue → Key → List ℕ
entry_text t key = shown key (entry_of t key)

-- The lines of the known objects, by rank.
abbrev pub table_text : TableValue → List ℕ
table_text t = flat_map (entry_text t) (keys_by_rank t)

-- The lines of all saved objects, by rank, and the last line.
abbrev pub saved_rest : TableValue → List ℕ
saved_rest t = flat_map (saved_entry t) (keys_by_rank t) ++ saved_end

-- what is written of an object: its line, those of an object in conflict, those of a saved one, or its key alone
abbrev pub lines_of : Lines → TableValue → Key → List ℕ
lines_of lines.Object = entry_text
lines_of lines.Conflict = conflict_text
lines_of lines.Saved = saved_entry
lines_of lines.Key = λ t. key_line
