-- The difference of two tables.
use Rattle.std.specs.Prelude.{Bool, true, false, if◌then◌else◌, Option, Some, None, List, [], ◌∷◌, ◌++◌}
use Rattle.std.specs.FinMap as fin
use Rattle.osm_base.specs.Rank.{rank_cmp}
use Rattle.osm_base.specs.declared.key.Key.{Key}
use Rattle.osm_table.specs.Same.{same_entry}
use Rattle.osm_table.specs.declared.entry.Entry.{Entry}
use Rattle.osm_table.specs.Table.{TableValue, entry_of}
use Rattle.dataset.specs.Edit.{Edit}
use Rattle.dataset.specs.Patch.{PatchValue}

-- both or no entry, and the same entry
abbrev pub same_at : Option Entry → Option Entry → Bool
same_at None None = true
same_at (Some a) (Some b) = same_entry a b
same_at a b = false

-- the keys of both tables, by rank
abbrev pub keys_of_both : TableValue → TableValue → List Key
keys_of_both t u = fin.keys (fin.from_entries {R = rank_cmp} (fin.entries t.entries ++ fin.entries u.entries))

abbrev pub edits_over : TableValue → TableValue → List Key → List Edit
edits_over t u [] = []
edits_over t u (k ∷ ks) = if same_at (entry_of t k) (entry_of u k) then edits_over t u ks else (record { key = k; before = entry_of t k; after = entry_of u k } ∷ edits_over t u ks)

-- The difference of two tables: by rank those keys whose entries differ, with both entries, and the two numbers.
abbrev pub diff : TableValue → TableValue → PatchValue
diff t u = record { edits = edits_over t u (keys_of_both t u); next_before = t.next; next_after = u.next }
