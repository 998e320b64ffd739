-- The closing tests of a job, which compare the table before and after.
--
-- For example `erase n1` in a way w5 that is in conflict is refused as InConflict w5: the job would mend the way,
-- and doesn't name it.
use Rattle.std.specs.Prelude.{ℕ, ◌&&◌, ◌||◌, Bool, false, not, nat_lt, List, Option, Some, Result, Ok, is_some}
use Rattle.std.specs.List.{find}
use Rattle.std.specs.Option.{option_or, option_map, option_map_or, option_and_then}
use Rattle.std.specs.FinMap as fin
use Rattle.osm_base.specs.declared.key.Key.{Key}
use Rattle.osm_base.specs.Content.{fits}
use Rattle.osm_base.specs.declared.content.Content.{Content}
use Rattle.osm_table.specs.declared.entry.Entry.{Entry}
use Rattle.osm_table.specs.Table.{TableValue, conflict_of, entry_of, keys_by_rank}
use Rattle.tool_api.specs.declared.refusal.Refusal.{Refusal}
use Rattle.tool_api.specs.declared.refusal.Refusal.TheVariants.{InConflict, Unfit, TableFull}
use Rattle.osm_table.specs.Same.{same_mine}
use Rattle.dataset.specs.Diff.{same_at}
use Rattle.tool_api.specs.Checks.{◌>>◌, when, is_named}
use Rattle.tool_api.specs.Changes.{Outcome, content_of}

-- whether a key's object is in conflict
abbrev pub in_conflict : Option Entry → Bool
in_conflict e = is_some (option_and_then conflict_of e)

-- the entry differs before and after, it isn't named, and it is in conflict
abbrev pub changes_conflict : List Key → Key → Option Entry → Option Entry → Bool
changes_conflict named k before after = in_conflict before && not (is_named named k) && not (same_at before after)

-- the content differs before and after, and the new one doesn't fit
abbrev pub makes_unfit : Option Content → Option Content → Bool
makes_unfit before after = option_map_or (λ c. not (fits c) && not (same_mine before (Some c))) after false

-- more entries than the limit, or no number is left
abbrev pub is_full : ℕ → TableValue → Bool
is_full limit t = nat_lt limit (fin.len t.entries) || nat_lt 1000000000000000000 t.next

-- the least entry that changes, isn't named and is in conflict
abbrev pub conflict_change_test : TableValue → List Key → TableValue → Option Refusal
conflict_change_test t named u = option_map InConflict (find (λ k. changes_conflict named k (entry_of t k) (entry_of u k)) (keys_by_rank t))

-- the least entry whose content changes to one that doesn't fit
abbrev pub fit_test : TableValue → TableValue → Option Refusal
fit_test t u = option_map Unfit (find (λ k. makes_unfit (content_of t k) (content_of u k)) (keys_by_rank u))

-- no room, or no number
abbrev pub room_test : ℕ → TableValue → Option Refusal
room_test limit u = when (is_full limit u) TableFull

-- Closing tests, from the table before and after: InConflict, Unfit, TableFull.
abbrev pub closing_tests : TableValue → ℕ → List Key → TableValue → Option Refusal
closing_tests t limit named u = option_or (conflict_change_test t named u) (option_or (fit_test t u) (room_test limit u))

-- a job's outcome, where it passes the closing tests
abbrev pub closing : TableValue → ℕ → List Key → Outcome → Result Outcome Refusal
closing t limit named new = closing_tests t limit named new.table >> Ok new
