-- What a merge makes of a whole table.
--
-- Each key takes the outcome of its case, and then all at once the lost objects that are wanted come back, the
-- candidates that are held stay, all other candidates go, and what living objects refer to is there. For example where
-- two relations refer to each other and both are told gone, both go; where a third, of which nothing is told, refers to
-- one of them, both are held.
use Rattle.std.specs.Prelude.{ℕ, ◌&&◌, ◌||◌, Bool, if◌then◌else◌, is_some, List, ◌++◌, Option, Some, None, Result, Ok}
use Rattle.std.specs.List.{find, list_any, flat_map}
use Rattle.std.specs.Option.{option_map}
use Rattle.std.specs.FinMap as fin
use Rattle.osm_base.specs.Rank.{is_key}
use Rattle.osm_base.specs.declared.key.Key.{Key}
use Rattle.osm_base.specs.declared.content.Content.{Content}
use Rattle.osm_table.specs.declared.entry.Why.TheVariants.{Held}
use Rattle.osm_table.specs.declared.entry.Entry.{Entry}
use Rattle.osm_table.specs.declared.entry.Entry.TheVariants.{Known}
use Rattle.osm_table.specs.Table.{TableValue, keys_by_rank, version_of}
use Rattle.osm_table.specs.Told.{ToldEntries, ToldValue}
use Rattle.dataset.specs.Exact.{mine_at}
use Rattle.tool_api.specs.declared.refusal.Refusal.{Refusal}
use Rattle.tool_api.specs.declared.refusal.Refusal.TheVariants.{VersionClash}
use Rattle.tool_api.specs.Checks.{◌>>◌}
use Rattle.tool_api.specs.Changes.{Outcome, done, changed}
use Rattle.tool_api.specs.Closing.{room_test}
use Rattle.closure.specs.Closure.{has, least, by_chains}
use Rattle.tool_api.specs.Staged.{Staged, stage_of, verdict_at, theirs_at, is_clash, lost_of, refers_by, refs_by, against, back, bared}

-- Over a stage of each key, and the keys of both sides:
module _ (stage : Key → Staged) (keys : List Key) where
  -- by what a firm entry refers: one that lives and is no candidate
  abbrev pub firm_content : Key → Option Content
  firm_content k = if (stage k).candidate then None else mine_at (stage k).entry

  -- by what a lost object would refer
  abbrev pub lost_content : Key → Option Content
  lost_content k = if (stage k).candidate then None else lost_of (stage k).entry

  -- by what a candidate refers
  abbrev pub candidate_content : Key → Option Content
  candidate_content k = if (stage k).candidate then mine_at (stage k).entry else None

  abbrev pub named_by_firm : Key → Bool
  named_by_firm k = list_any (λ j. refers_by (firm_content j) k) keys

  -- The wanted objects: the lost ones at the ends of chains that begin at a firm entry, of lost ones between.
  abbrev pub wanted_start : Key → Bool
  wanted_start k = is_some (lost_content k) && named_by_firm k

  abbrev pub wanted_leads : Key → Key → Bool
  wanted_leads j k = is_some (lost_content k) && refers_by (lost_content j) k

  abbrev pub wanted : List Key
  wanted = least is_key (by_chains wanted_start wanted_leads) keys

  abbrev pub named_by_wanted : Key → Bool
  named_by_wanted k = list_any (λ j. refers_by (lost_content j) k) wanted

  -- The held objects: the candidates at the ends of chains of candidates, to whose first a firm or wanted entry refers.
  abbrev pub held_start : Key → Bool
  held_start k = (stage k).candidate && (named_by_firm k || named_by_wanted k)

  abbrev pub held_leads : Key → Key → Bool
  held_leads j k = (stage k).candidate && refers_by (candidate_content j) k

  abbrev pub held : List Key
  held = least is_key (by_chains held_start held_leads) keys

  abbrev pub named_by_held : Key → Bool
  named_by_held k = list_any (λ j. refers_by (candidate_content j) k) held

  -- whether an entry that lives in the end refers to the key
  abbrev pub named : Key → Bool
  named k = named_by_firm k || (named_by_wanted k || named_by_held k)

  -- what a key has in the end
  abbrev pub final : Key → Option Entry
  final k =
      if (stage k).candidate then (if has is_key held k then option_map (against Held (stage k).theirs) (stage k).entry else Some (Known (stage k).theirs None None))
      else (if has is_key wanted k then option_map back (stage k).entry
      else bared (named k) (stage k).entry)

-- the keys of the table, and those that are told of
abbrev pub both_keys : TableValue → ToldEntries → List Key
both_keys t m = keys_by_rank t ++ fin.keys m

-- and those to which their contents refer
abbrev pub reached_keys : TableValue → ToldEntries → List Key
reached_keys t m = both_keys t m ++ flat_map (λ k. refs_by (mine_at (stage_of t m k).entry) ++ refs_by (lost_of (stage_of t m k).entry)) (both_keys t m)

-- The table with what is told merged into it, where no versions clash.
abbrev pub merged : TableValue → ToldEntries → TableValue
merged t m = changed t (final (stage_of t m) (both_keys t m)) (reached_keys t m)

-- the refusal of an object of which one version is told in two ways
abbrev pub clash_of : ToldEntries → Key → Refusal
clash_of m k = VersionClash k (version_of (theirs_at m k))

-- VersionClash with the least key that is told gone in the version in which it is known live, or live where it is gone
abbrev pub clash_test : TableValue → ToldEntries → Option Refusal
clash_test t m = option_map (clash_of m) (find (λ k. is_clash (verdict_at t m k)) (fin.keys m))

-- A download merged into the table: VersionClash, then TableFull. The number of the next new object stays.
abbrev pub merge : TableValue → ℕ → ToldValue → Result Outcome Refusal
merge t limit told = do
  clash_test t told.told
  room_test limit (merged t told.told)
  Ok (done (merged t told.told))
