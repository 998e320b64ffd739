-- What an upload does with an object, and what refers to what.
use Rattle.std.specs.Prelude.{Bool, true, false, not, ◌||◌, is_some, Option, Some, None, List, []}
use Rattle.std.specs.Option.{option_map_or, option_and_then}
use Rattle.osm_base.specs.Content.{refers, refs_of}
use Rattle.osm_base.specs.Order.{ranked}
use Rattle.osm_base.specs.Same.{same_content}
use Rattle.osm_base.specs.declared.key.Key.{Key}
use Rattle.osm_base.specs.declared.content.Content.{Content}
use Rattle.osm_table.specs.declared.entry.Base.TheVariants.{New, Live, Gone}
use Rattle.osm_table.specs.declared.entry.Entry.{Entry}
use Rattle.osm_table.specs.declared.entry.Entry.TheVariants.{Incomplete, Known}
use Rattle.osm_table.specs.Table.{TableValue, entry_of, held_by}
use Rattle.dataset.specs.Exact.{mine_at}

-- Rising: the base is New, or it is Gone and the entry lives.
abbrev pub is_rising : Entry → Bool
is_rising (Known New mine conflict) = true
is_rising (Known (Gone version meta) mine conflict) = is_some mine
is_rising e = false

-- Update: the base is Live, and the entry lives with another content.
abbrev pub is_update : Entry → Bool
is_update (Known (Live version content meta) (Some mine) conflict) = not (same_content mine content)
is_update e = false

-- Falling: the base is Live, and the entry doesn't live.
abbrev pub is_falling : Entry → Bool
is_falling (Known (Live version content meta) mine conflict) = not (is_some mine)
is_falling e = false

-- a content of it is sent
abbrev pub is_sent : Entry → Bool
is_sent e = is_rising e || is_update e

-- the entry of the key passes a test
abbrev pub at_key : TableValue → (Entry → Bool) → Key → Bool
at_key t test k = option_map_or test (entry_of t k) false

-- the content refers to the key
abbrev pub content_refers : Option Content → Key → Bool
content_refers o r = option_map_or (λ c. refers c r) o false

-- the first key lives and refers to the second
abbrev pub mine_refers : TableValue → Key → Key → Bool
mine_refers t k r = content_refers (mine_at (entry_of t k)) r

-- what the base of an entry holds
abbrev pub held_of : Entry → Option Content
held_of Incomplete = None
held_of (Known base mine conflict) = held_by base

abbrev pub held_at : Option Entry → Option Content
held_at o = option_and_then held_of o

-- the base of the first key refers to the second
abbrev pub held_refers : TableValue → Key → Key → Bool
held_refers t k r = content_refers (option_and_then held_of (entry_of t k)) r

-- to what the base of the key refers, in order, each as often as it stands
abbrev pub held_list : TableValue → Key → List Key
held_list t k = option_map_or refs_of (held_at (entry_of t k)) []

-- to what the base of the key refers, by rank, each once
abbrev pub held_refs : TableValue → Key → List Key
held_refs t k = ranked (held_list t k)
