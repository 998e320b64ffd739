-- What the lines of a text tell: the one table whose saved session stands in them, or the first line at which none goes on.
--
-- The law `saved_table_is_told` says that `saved_table` gives the answer that is told of a text's lines, and no other: so this
-- says all of it, and how the lines are read needn't be known.
use Rattle.std.specs.Prelude.{◌≡◌, ◌≤◌, ◌<◌, ◌+◌, not, true, false, ℕ, List, [], ◌∷◌, ◌++◌, map, length, Option, Some, None, Result, Ok, Err}
use Rattle.std.specs.List.{list_all}
use Rattle.std.specs.Ordering.{is_lt}
use Rattle.std.specs.FinMap as fin
use Rattle.osm_base.specs.Number.{IsId}
use Rattle.osm_base.specs.Rank.{rank_cmp}
use Rattle.osm_base.specs.Meta.{empty_meta}
use Rattle.osm_base.specs.declared.key.Key.{Key}
use Rattle.osm_base.specs.declared.meta.Meta.{Meta}
use Rattle.osm_base.specs.declared.content.Content.{Content}
use Rattle.osm_table.specs.Table.{TableValue, Each, IfContent, entry_of, is_new}
use Rattle.osm_table.specs.declared.entry.Base.{Base}
use Rattle.osm_table.specs.declared.entry.Base.TheVariants.{New, Live, Gone}
use Rattle.osm_table.specs.declared.entry.Conflict.{Conflict}
use Rattle.osm_table.specs.declared.entry.Entry.{Entry}
use Rattle.dataset.specs.Sound.{IfKnown, IfTheirs, IsNumber, IsSound, IsSoundEntry, LivesIn}
use Rattle.opl_line.specs.declared.mode.Mode.TheVariants.{Import}
use Rattle.opl_line.specs.declared.object.LineKind.TheVariants.{Object}
use Rattle.opl_line.specs.Line.{line_of, freed}
use Rattle.saved_session.specs.Saved.{mine_version, saved_lines}
use Rattle.saved_session.specs.Words.{is_header}
use Rattle.saved_session.specs.declared.fault.SavedFault.{SavedFault}
use Rattle.saved_session.specs.declared.fault.SavedFault.TheVariants.{BadSaved, Unsound, TableFull, Memory}

-- A line of a file tells the object.
abbrev pub HasLine : Key → ℕ → Option Content → Meta → Type 0
HasLine key version side meta = (line : List ℕ) × (line_of Import line ≡ Ok (Object (record { key = key; version = version; side = side; meta = meta })))

-- what a server has of it, unless it has nothing
abbrev pub BaseHasLine : Key → Base → Type 0
BaseHasLine key New = Unit {0}
BaseHasLine key (Live version content meta) = HasLine key version (Some content) meta
BaseHasLine key (Gone version meta) = HasLine key version None meta

-- Lines of a file tell the base, mine and theirs, which a server has.
pub record HasLines (key : Key) (base : Base) (mine : Option Content) (conflict : Option Conflict) : Type 0 where
  pub base_has : BaseHasLine key base
  pub mine_has : IfContent mine (λ c. HasLine key (mine_version key.id) (Some c) empty_meta)
  pub theirs_has : IfTheirs conflict (λ theirs. (is_new theirs ≡ false) × BaseHasLine key theirs)

abbrev pub EntryHasLines : Key → Entry → Type 0
EntryHasLines key e = IsId key.id × IfKnown e (HasLines key)

-- The saved session of a table stands in the lines, of which each may have a CR at its end: before it lines that don't begin
-- with `session `, behind it any.
pub record StandsIn (t : TableValue) (lines : List (List ℕ)) : Type 0 where
  pub number : IsNumber t.next
  pub entries : Each t EntryHasLines
  pub front : List (List ℕ)
  pub own : List (List ℕ)
  pub behind : List (List ℕ)
  pub parts : lines ≡ front ++ (own ++ behind)
  pub before : list_all (λ line. not (is_header (freed line))) front ≡ true
  pub written : map freed own ≡ saved_lines t

-- The lines can go on to some that a saved session stands in.
abbrev pub CanGoOn : List (List ℕ) → Type 0
CanGoOn lines = (t : TableValue) × (more : List (List ℕ)) × StandsIn t (lines ++ more)

-- with the next line they can't, or there is none and no saved session stands in them
abbrev pub StopsAt : List (List ℕ) → List (List ℕ) → Type 0
StopsAt lines [] = (t : TableValue) → StandsIn t lines → ⊥
StopsAt lines (next ∷ left) = CanGoOn (lines ++ next ∷ []) → ⊥

-- The number, counted from 1, is that of the first line with which no saved session goes on, or the one after the last.
pub record IsFirstBad (number : ℕ) (lines : List (List ℕ)) : Type 0 where
  pub good : List (List ℕ)
  pub left : List (List ℕ)
  pub parts : lines ≡ good ++ left
  pub count : number ≡ length good + 1
  pub goes_on : CanGoOn good
  pub stops : StopsAt good left

-- the entry of the key, if there is one, meets what is asked of each of a sound table
abbrev pub FitsIn : TableValue → Key → Type 0
FitsIn t key = (e : Entry) → entry_of t key ≡ Some e → IsSoundEntry t.next key e × LivesIn t e

-- The least key whose entry doesn't.
pub record IsLeastUnsound (t : TableValue) (key : Key) : Type 0 where
  pub unsound : FitsIn t key → ⊥
  pub least : (k : Key) → is_lt (rank_cmp k key) ≡ true → FitsIn t k

-- What is told of lines within a limit of entries: the table whose saved session stands in them, if it is sound and no greater;
-- else the fault.
abbrev pub IsTold : ℕ → List (List ℕ) → Result TableValue SavedFault → Type 0
IsTold limit lines (Ok t) = StandsIn t lines × IsSound t × (fin.len t.entries ≤ limit)
IsTold limit lines (Err (BadSaved number)) = IsFirstBad number lines
IsTold limit lines (Err (Unsound key)) = (t : TableValue) × StandsIn t lines × IsLeastUnsound t key
IsTold limit lines (Err TableFull) = (t : TableValue) × StandsIn t lines × IsSound t × (limit < fin.len t.entries)
IsTold limit lines (Err Memory) = ⊥
