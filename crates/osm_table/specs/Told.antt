-- What a download tells of the objects.
use Rattle.std.specs.Prelude.{◌≡◌, ◌≤◌, ◌++◌, ℕ, Bool, true, false, if◌then◌else◌, is_some, List, [], ◌∷◌, map, Option, Some, None}
use Rattle.std.specs.List.{AllByRecursion}
use Rattle.std.specs.FinMap as fin
use Rattle.osm_base.specs.Rank.{rank_cmp}
use Rattle.osm_base.specs.Content.{refs_of, kind_of_content}
use Rattle.osm_base.specs.declared.key.Key.{Key}
use Rattle.osm_base.specs.declared.content.Content.{Content}
use Rattle.osm_base.specs.declared.meta.Meta.{Meta}
use Rattle.osm_table.specs.Table.{TableValue, IsPositive}
use Rattle.osm_table.specs.declared.entry.Base.TheVariants as base
use Rattle.osm_table.specs.declared.entry.Entry.{Entry}
use Rattle.osm_table.specs.declared.entry.Entry.TheVariants.{Incomplete, Known}
use Rattle.osm_table.specs.declared.told.Told.{Told}
use Rattle.osm_table.specs.declared.told.Told.TheVariants.{Mentioned, Live, Gone}

abbrev pub ToldEntries : Type 0
ToldEntries = fin.FinMap rank_cmp Told

-- What is told of each object, and the objects in the order in which they were first told of.
pub record ToldValue : Type 0 where
  pub told : ToldEntries
  pub order : List Key

-- the entry of an object of which no more is known than what is told
abbrev pub entry_told : Told → Entry
entry_told Mentioned = Incomplete
entry_told (Live version content meta) = Known (base.Live version content meta) (Some content) None
entry_told (Gone version meta) = Known (base.Gone version meta) None None

-- what is told of an object with such an entry; no server tells of a base that is New
abbrev pub told_of : Entry → Told
told_of Incomplete = Mentioned
told_of (Known base.New mine conflict) = Mentioned
told_of (Known (base.Live version content meta) mine conflict) = Live version content meta
told_of (Known (base.Gone version meta) mine conflict) = Gone version meta

-- the table of which no more is known than what is told
abbrev pub table_told : ToldEntries → ℕ → TableValue
table_told told next = record { entries = fin.from_entries (map (λ e. (e.0, entry_told e.1)) (fin.entries told)); next = next }

-- what is told of a key, none where it isn't there
abbrev pub told_at : ToldValue → Key → Option Told
told_at m key = fin.get m.told key

-- the map with one key set: a new key comes last, and another keeps its place
abbrev pub with_told : ToldValue → Key → Told → ToldValue
with_told m key told = record { told = fin.insert m.told key told; order = if is_some (told_at m key) then m.order else (m.order ++ key ∷ []) }

-- the map with one key mentioned, where nothing is told of it
abbrev pub with_mention : ToldValue → Key → ToldValue
with_mention m key = if is_some (told_at m key) then m else with_told m key Mentioned

-- a version that a server gave
abbrev pub IsVersion : ℕ → Type 0
IsVersion version = (1 ≤ version) × (version ≤ 2000000000)

-- a content of the key's kind whose references are positive ids
abbrev pub IsServerContent : Key → Content → Type 0
IsServerContent key content = (kind_of_content content ≡ key.kind) × AllByRecursion (λ r. IsPositive r.id) (refs_of content)

-- What may be told of a key: it has a positive id, and a version and a content of a server.
abbrev pub IsTold : Key → Told → Type 0
IsTold key Mentioned = IsPositive key.id
IsTold key (Live version content meta) = IsPositive key.id × IsVersion version × IsServerContent key content
IsTold key (Gone version meta) = IsPositive key.id × IsVersion version

-- All that is told may be told of its key.
abbrev pub IsToldMap : ToldEntries → Type 0
IsToldMap told = (key : Key) (t : Told) → fin.get told key ≡ Some t → IsTold key t

-- whether an object is told of as living, or at least mentioned
abbrev pub is_told_there : Option Told → Bool
is_told_there None = false
is_told_there (Some Mentioned) = true
is_told_there (Some (Live version content meta)) = true
is_told_there (Some (Gone version meta)) = false

-- Each reference of an object that is told of as living is told of as there.
abbrev pub IsClosed : ToldEntries → Type 0
IsClosed told = (key : Key) (version : ℕ) (content : Content) (meta : Meta) → fin.get told key ≡ Some (Live version content meta)
    → AllByRecursion (λ r. is_told_there (fin.get told r) ≡ true) (refs_of content)
