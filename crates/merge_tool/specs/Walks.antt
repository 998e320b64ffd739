-- What the walks of a merge read.
--
-- For example where the lost way w1 would refer to n1 and n2, and n1 is lost too, `lost_links` leads from w1 to n1 alone.
use Rattle.std.specs.Prelude.{Bool, is_some, if◌then◌else◌, filter, List, []}
use Rattle.osm_base.specs.Rank.{is_key}
use Rattle.osm_base.specs.declared.key.Key.{Key}
use Rattle.osm_table.specs.Table.{TableValue, entry_of}
use Rattle.dataset.specs.Exact.{mine_at}
use Rattle.closure.specs.Closure.{has}
use Rattle.tool_api.specs.Staged.{lost_of, refs_by}

-- whether an object was lost here
abbrev pub is_lost : TableValue → Key → Bool
is_lost u k = is_some (lost_of (entry_of u k))

-- to what a lost object would refer
abbrev pub lost_refs : TableValue → Key → List Key
lost_refs u k = refs_by (lost_of (entry_of u k))

-- the lost ones of these
abbrev pub lost_links : TableValue → Key → List Key
lost_links u k = filter (is_lost u) (lost_refs u k)

-- to what a living object refers
abbrev pub mine_refs : TableValue → Key → List Key
mine_refs t k = refs_by (mine_at (entry_of t k))

-- the candidates to which a candidate refers
abbrev pub going_links : List Key → TableValue → Key → List Key
going_links candidates t k = if has is_key candidates k then filter (has is_key candidates) (mine_refs t k) else []
