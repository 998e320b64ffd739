-- Changes of a table.
--
-- A job changes entries all at once, each from what the old table has: `changed t g keys`, where g gives the new
-- entry of a key, or none where it leaves the table. No order of edits plays a part.
--
-- For example `changed t (delete t) (w1 ∷ w-1 ∷ [])` leaves w1 with its base and no content of ours, and takes w-1 out,
-- since no server knows it.
use Rattle.std.specs.Prelude.{ℕ, negsuc, ◌+◌, ◌-◌, List, [], ◌∷◌, Option, Some, None}
use Rattle.std.specs.Option.{option_map, option_and_then, option_map_or}
use Rattle.osm_base.specs.declared.key.Key.{Key}
use Rattle.osm_base.specs.declared.key.Kind.{Kind}
use Rattle.osm_base.specs.declared.content.Content.{Content}
use Rattle.osm_table.specs.declared.entry.Base.TheVariants.{New}
use Rattle.osm_table.specs.declared.entry.Entry.{Entry}
use Rattle.osm_table.specs.declared.entry.Entry.TheVariants.{Incomplete, Known}
use Rattle.osm_table.specs.Table.{TableValue, entry_of, with_entry, without_entry}
use Rattle.osm_table.specs.Table.{mine_of}
use Rattle.osm_base.specs.Content.{kind_of_content}

-- what a job gives: the keys of its reply and the new table
pub record Outcome : Type 0 where
  pub keys : List Key
  pub table : TableValue

-- the table with another entry, or none, at a key
abbrev pub placed : TableValue → Key → Option Entry → TableValue
placed t k e = option_map_or (with_entry t k) e (without_entry t k)

-- The table where each of the keys has the entry that g gives it.
abbrev pub changed : TableValue → (Key → Option Entry) → List Key → TableValue
changed t g [] = t
changed t g (k ∷ ks) = changed (placed t k (g k)) g ks

-- an entry with another content
abbrev pub with_mine : (Content → Content) → Entry → Entry
with_mine f Incomplete = Incomplete
with_mine f (Known base mine conflict) = Known base (option_map f mine) conflict

-- what is left of an entry whose object is deleted
abbrev pub deleted : Entry → Option Entry
deleted Incomplete = Some Incomplete
deleted (Known New mine conflict) = None
deleted (Known base mine conflict) = Some (Known base None conflict)

-- a key's entry with its content edited
abbrev pub edit : TableValue → (Content → Content) → Key → Option Entry
edit t f k = option_map (with_mine f) (entry_of t k)

-- what is left of a key's entry when it is deleted
abbrev pub delete : TableValue → Key → Option Entry
delete t k = option_and_then deleted (entry_of t k)

-- the living content of a key
abbrev pub content_of : TableValue → Key → Option Content
content_of t k = option_and_then mine_of (entry_of t k)

-- the n-th new id, for n from 1
abbrev pub new_key : Kind → ℕ → Key
new_key kind n = record { kind = kind; id = negsuc (n - 1) }

-- the table with a new entry, whose id is minus `next`
abbrev pub added : TableValue → Content → TableValue
added t c = record (with_entry t (new_key (kind_of_content c) t.next) (Known New (Some c) None)) { next = t.next + 1 }

-- with several, in order
abbrev pub all_added : TableValue → List Content → TableValue
all_added t [] = t
all_added t (c ∷ cs) = all_added (added t c) cs

-- nothing made
abbrev pub done : TableValue → Outcome
done t = record { keys = []; table = t }
