-- What comes of each key in a merge.
--
-- For example where the nodes n1 and n2 weren't changed here and are told gone, and w1, of which nothing is told, refers
-- to n1 alone, n1 is held and stays in conflict, and n2 goes.
use Rattle.std.specs.Prelude.{Bool, Option}
use Rattle.osm_base.specs.Rank.{is_key}
use Rattle.osm_base.specs.declared.key.Key.{Key}
use Rattle.osm_table.specs.declared.entry.Entry.{Entry}
use Rattle.osm_table.specs.Table.{TableValue}
use Rattle.osm_table.specs.Told.{ToldEntries}
use Rattle.closure.specs.Closure.{has}
use Rattle.tool_api.specs.Staged.{stage_of}
use Rattle.tool_api.specs.Merged.{both_keys, wanted, held, named, named_by_wanted, named_by_held, final}

-- what a key has in the end
abbrev pub final_at : TableValue → ToldEntries → Key → Option Entry
final_at t m k = final (stage_of t m) (both_keys t m) k

-- whether it is a lost object that comes back
abbrev pub is_wanted : TableValue → ToldEntries → Key → Bool
is_wanted t m k = has is_key (wanted (stage_of t m) (both_keys t m)) k

-- whether it is a candidate that stays
abbrev pub is_held : TableValue → ToldEntries → Key → Bool
is_held t m k = has is_key (held (stage_of t m) (both_keys t m)) k

-- whether something that lives in the end refers to it
abbrev pub is_named : TableValue → ToldEntries → Key → Bool
is_named t m k = named (stage_of t m) (both_keys t m) k

-- whether something that comes back refers to it
abbrev pub is_wanted_name : TableValue → ToldEntries → Key → Bool
is_wanted_name t m k = named_by_wanted (stage_of t m) (both_keys t m) k

-- whether something that is held refers to it
abbrev pub is_held_name : TableValue → ToldEntries → Key → Bool
is_held_name t m k = named_by_held (stage_of t m) (both_keys t m) k
