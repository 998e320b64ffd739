-- All that is told, as a draft.
use Rattle.std.specs.Prelude.{ℕ, Some, map}
use Rattle.std.specs.FinMap as fin
use Rattle.osm_table.specs.Told.{ToldEntries, entry_told}
use Rattle.dataset.specs.Draft.{DraftValue}

-- each object that is told of gets the entry of which no more is known than what is told
abbrev pub arrivals : ToldEntries → ℕ → DraftValue
arrivals told next = record { puts = fin.from_entries (map (λ e. (e.0, Some (entry_told e.1))) (fin.entries told)); next = next }
