-- What is known of each object: words on one entry, and on all of them.
use Rattle.std.specs.Prelude.{◌≡◌, ◌≤◌, ◌^◌, ◌||◌, ℕ, ℤ, pos, negsuc, Bool, true, false, not, is_some, IsSome, List, map, Option, Some, None}
use Rattle.std.specs.List.{filter}
use Rattle.std.specs.Option.{option_map_or}
use Rattle.std.specs.FinMap as fin
use Rattle.osm_base.specs.Rank.{rank_cmp}
use Rattle.osm_base.specs.Content.{refers}
use Rattle.osm_base.specs.declared.key.Key.{Key}
use Rattle.osm_base.specs.declared.content.Content.{Content}
use Rattle.osm_base.specs.declared.meta.Meta.{Meta}
use Rattle.osm_base.specs.Meta.{empty_meta}
use Rattle.osm_table.specs.declared.entry.Base.{Base}
use Rattle.osm_table.specs.declared.entry.Base.TheVariants.{New, Live, Gone}
use Rattle.osm_table.specs.declared.entry.Conflict.{Conflict}
use Rattle.osm_table.specs.declared.entry.Entry.{Entry}
use Rattle.osm_table.specs.declared.entry.Entry.TheVariants.{Incomplete, Known}
use Rattle.osm_table.specs.Same.{same_mine}

-- whether no more is known of an object than that it is at the server
abbrev pub is_incomplete : Entry → Bool
is_incomplete Incomplete = true
is_incomplete (Known base mine conflict) = false

-- the state that the edits began from
abbrev pub base_of : Entry → Option Base
base_of Incomplete = None
base_of (Known base mine conflict) = Some base

-- the conflict that isn't resolved yet
abbrev pub conflict_of : Entry → Option Conflict
conflict_of Incomplete = None
conflict_of (Known base mine conflict) = conflict

-- the content of a living entry
abbrev pub mine_of : Entry → Option Content
mine_of Incomplete = None
mine_of (Known base mine conflict) = mine

-- An entry is living where it is Known with a mine.
abbrev pub is_living : Entry → Bool
is_living e = is_some (mine_of e)

-- the content that a base holds
abbrev pub held_by : Base → Option Content
held_by New = None
held_by (Live version content meta) = Some content
held_by (Gone version meta) = None

-- the version of a base, 0 where no server has one
abbrev pub version_of : Base → ℕ
version_of New = 0
version_of (Live version content meta) = version
version_of (Gone version meta) = version

-- the metadata of a base, the empty ones where no server has the object
abbrev pub meta_of : Base → Meta
meta_of New = empty_meta
meta_of (Live version content meta) = meta
meta_of (Gone version meta) = meta

-- the conflict's theirs, else the base
abbrev pub known_base : Base → Option Conflict → Base
known_base base None = base
known_base base (Some conflict) = conflict.theirs

-- the last that is known of the server's side
abbrev pub known_side : Entry → Option Base
known_side Incomplete = None
known_side (Known base mine conflict) = Some (known_base base conflict)

abbrev pub is_new : Base → Bool
is_new New = true
is_new (Live version content meta) = false
is_new (Gone version meta) = false

-- An entry is changed where its base is New, or mine differs from what the base holds.
abbrev pub is_changed : Entry → Bool
is_changed Incomplete = false
is_changed (Known base mine conflict) = is_new base || not (same_mine mine (held_by base))

-- the content, where there is one, meets a condition
abbrev pub IfContent : Option Content → (Content → Type 0) → Type 0
IfContent None P = Unit {0}
IfContent (Some c) P = P c

-- an id that a server gave
abbrev pub IsPositive : ℤ → Type 0
IsPositive (pos n) = (1 ≤ n) × (n ≤ 10 ^ 18)
IsPositive (negsuc n) = ⊥

-- What is known of each object, and the number of the next new one.
pub record TableValue : Type 0 where
  pub entries : fin.FinMap rank_cmp Entry
  pub next : ℕ

-- the entry of a key
abbrev pub entry_of : TableValue → Key → Option Entry
entry_of t key = fin.get t.entries key

-- the table with one entry set
abbrev pub with_entry : TableValue → Key → Entry → TableValue
with_entry t key entry = record { entries = fin.insert t.entries key entry; next = t.next }

-- the table without one
abbrev pub without_entry : TableValue → Key → TableValue
without_entry t key = record { entries = fin.remove t.entries key; next = t.next }

-- its keys by rank
abbrev pub keys_by_rank : TableValue → List Key
keys_by_rank t = fin.keys t.entries

-- whether the entry lives and refers to the key
abbrev pub uses : Entry → Key → Bool
uses entry key = option_map_or (λ c. refers c key) (mine_of entry) false

-- the users among entries, in the order of these
abbrev pub users_among : List (Key × Entry) → Key → List Key
users_among entries key = map (λ e. e.0) (filter (λ e. uses e.1 key) entries)

-- The living entries of a table that refer to the key, by rank, each once.
abbrev pub users : TableValue → Key → List Key
users t key = users_among (fin.entries t.entries) key

-- each entry of the table meets a condition
abbrev pub Each : TableValue → (Key → Entry → Type 0) → Type 0
Each t P = (k : Key) (e : Entry) → entry_of t k ≡ Some e → P k e

-- the entry lives or is Incomplete
abbrev pub IsThere : Option Entry → Type 0
IsThere None = ⊥
IsThere (Some Incomplete) = Unit {0}
IsThere (Some (Known base mine conflict)) = IsSome mine
