-- The table after a server's answers to changes.
--
-- For example the node n-1 was made and got the id 50. Then n50 stands in the table, with version 1 and with the content that
-- was sent as its base and its mine; n-1 stands there no more, and a way that referred to n-1 refers to n50.
use Rattle.std.specs.Prelude.{◌+◌, ℤ, List, [], ◌∷◌, map, Option, Some, None}
use Rattle.std.specs.Option.{option_map}
use Rattle.std.specs.FinMap as fin
use Rattle.osm_base.specs.Rank.{rank_cmp}
use Rattle.osm_base.specs.Meta.{empty_meta}
use Rattle.osm_base.specs.declared.key.Key.{Key}
use Rattle.osm_base.specs.declared.content.Content.{Content}
use Rattle.osm_table.specs.declared.entry.Base.{Base}
use Rattle.osm_table.specs.declared.entry.Base.TheVariants.{Live, Gone}
use Rattle.osm_table.specs.declared.entry.Conflict.{Conflict}
use Rattle.osm_table.specs.declared.entry.Entry.{Entry}
use Rattle.osm_table.specs.declared.entry.Entry.TheVariants.{Incomplete, Known}
use Rattle.osm_table.specs.Table.{TableValue, entry_of, with_entry}
use Rattle.upload_order.specs.declared.change.Change.{Change}
use Rattle.upload_order.specs.declared.change.Change.TheVariants.{Create, Modify, Delete}
use Rattle.upload_order.specs.Rename.{Names, called, with_id}
use Rattle.renamed_content.specs.Renamed.{renamed}
use Rattle.upload_order.specs.Run.{pick_for, picks_left}

-- a key, where the object of the placeholder got the id
abbrev pub moved : Key → ℤ → Key → Key
moved placeholder id = called ((placeholder, id) ∷ [])

-- a base with other references
abbrev pub moved_base : (Key → Key) → Base → Base
moved_base f (Live version content meta) = Live version (renamed f content) meta
moved_base f base = base

abbrev pub moved_conflict : (Key → Key) → Conflict → Conflict
moved_conflict f c = record { why = c.why; theirs = moved_base f c.theirs }

-- an entry with other references in all of its contents
abbrev pub moved_entry : (Key → Key) → Entry → Entry
moved_entry f Incomplete = Incomplete
moved_entry f (Known base mine conflict) = Known (moved_base f base) (option_map (renamed f) mine) (option_map (moved_conflict f) conflict)

abbrev pub moved_entries : (Key → Key) → fin.FinMap rank_cmp Entry → fin.FinMap rank_cmp Entry
moved_entries f m = fin.from_entries (map (λ e. (e.0, moved_entry f e.1)) (fin.entries m))

-- an entry that stands as it is on another base
abbrev pub based_on : Base → Option Entry → Entry
based_on base None = Incomplete
based_on base (Some Incomplete) = Incomplete
based_on base (Some (Known old mine conflict)) = Known base mine conflict

-- an object that was just made
abbrev pub made_entry : Content → Entry
made_entry content = Known (Live 1 content empty_meta) (Some content) None

-- The table after the answer to one change. The entry has the base that the change left. After a Create the object stands
-- under the id that the server gave, and no longer under its placeholder, as a key and in all contents.
abbrev pub confirmed : TableValue → Change → ℤ → TableValue
confirmed t (Create k c) id =
    let f = moved k id in
    record { entries = fin.insert (fin.remove (moved_entries f t.entries) k) (with_id k id) (made_entry (renamed f c)); next = t.next }
confirmed t (Modify k version c) id = with_entry t k (based_on (Live (version + 1) c empty_meta) (entry_of t k))
confirmed t (Delete k version) id = with_entry t k (based_on (Gone (version + 1) empty_meta) (entry_of t k))

-- a change with other references
abbrev pub moved_change : (Key → Key) → Change → Change
moved_change f (Create k c) = Create k (renamed f c)
moved_change f (Modify k version c) = Modify k version (renamed f c)
moved_change f (Delete k version) = Delete k version

-- the placeholders answered, with one more after a Create
abbrev pub named_by : Change → ℤ → Names → Names
named_by (Create k c) id names = (k, id) ∷ names
named_by c id names = names

-- one answer after the other, each change with the ids of earlier ones in its references
abbrev pub confirmed_from : Names → TableValue → List Change → List ℤ → TableValue
confirmed_from names t [] ids = t
confirmed_from names t (c ∷ cs) ids =
    confirmed_from (named_by c (pick_for c ids) names) (confirmed t (moved_change (called names) c) (pick_for c ids)) cs (picks_left c ids)

-- The table after the answers to changes, in order. The ids are those that objects got that were made.
abbrev pub confirmed_all : TableValue → List Change → List ℤ → TableValue
confirmed_all t cs ids = confirmed_from [] t cs ids

-- the placeholders of changes, each with the id that its object got, newest first
abbrev pub names_from : Names → List Change → List ℤ → Names
names_from names [] ids = names
names_from names (c ∷ cs) ids = names_from (named_by c (pick_for c ids) names) cs (picks_left c ids)

abbrev pub names_of : List Change → List ℤ → Names
names_of cs ids = names_from [] cs ids
