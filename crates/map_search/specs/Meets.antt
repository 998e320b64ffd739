-- Which keys of a table meet a query.
--
-- For example with the living way w5 on the nodes n1 and n2, of which n2 is deleted: `child way` is met by n1 and n2, and
-- `parent deleted` by w5.
use Rattle.std.specs.Prelude.{◌==◌, ◌&&◌, ◌||◌, ℕ, Bool, true, false, not, is_some, List, Option, Some, None}
use Rattle.std.specs.List.{filter, list_any}
use Rattle.std.specs.Option.{option_map_or}
use Rattle.osm_base.specs.Content.{tags_of}
use Rattle.osm_base.specs.Rank.{kind_place}
use Rattle.osm_base.specs.Same.{same_text}
use Rattle.osm_base.specs.Tags.{value_of}
use Rattle.osm_base.specs.declared.content.Content.{Content}
use Rattle.osm_base.specs.declared.key.Key.{Key}
use Rattle.osm_base.specs.declared.key.Kind.{Kind}
use Rattle.osm_table.specs.Table.{TableValue, entry_of, keys_by_rank, base_of, conflict_of, mine_of, is_living, is_incomplete, is_changed, is_new, uses}
use Rattle.osm_table.specs.declared.entry.Entry.{Entry}
use Rattle.map_search.specs.Query.{QueryValue, OfKind, Tag, IsNew, IsChanged, IsDeleted, IsIncomplete, HasConflict, Child, Parent, Not, And, Or}

-- the same kind
abbrev pub same_kind : Kind → Kind → Bool
same_kind a b = kind_place a == kind_place b

-- whether it is the wanted value, if not any will do
abbrev pub is_value : (wanted : Option (List ℕ)) → List ℕ → Bool
is_value None value = true
is_value (Some wanted) value = same_text wanted value

-- the content has the key, with the value or any
abbrev pub has_tag : (key : List ℕ) → (wanted : Option (List ℕ)) → Content → Bool
has_tag key wanted content = option_map_or (is_value wanted) (value_of (tags_of content) key) false

-- a living entry whose mine has the tag
abbrev pub is_tagged : (key : List ℕ) → (wanted : Option (List ℕ)) → Entry → Bool
is_tagged key wanted e = option_map_or (has_tag key wanted) (mine_of e) false

-- its base is New
abbrev pub begins_new : Entry → Bool
begins_new e = option_map_or is_new (base_of e) false

-- Known and not living
abbrev pub is_deleted : Entry → Bool
is_deleted e = not (is_incomplete e) && not (is_living e)

abbrev pub has_conflict : Entry → Bool
has_conflict e = is_some (conflict_of e)

-- what the entry of the key is, if the table has one
abbrev pub entry_is : TableValue → Key → (Entry → Bool) → Bool
entry_is t k test = option_map_or test (entry_of t k) false

-- the key's entry is living and refers to the other
abbrev pub refers_to : TableValue → (user of : Key) → Bool
refers_to t user of = entry_is t user (λ e. uses e of)

-- whether a key of the table meets a query
abbrev pub meets : TableValue → Key → QueryValue → Bool
meets t k (OfKind kind) = same_kind kind k.kind
meets t k (Tag key value) = entry_is t k (is_tagged key value)
meets t k IsNew = entry_is t k begins_new
meets t k IsChanged = entry_is t k is_changed
meets t k IsDeleted = entry_is t k is_deleted
meets t k IsIncomplete = entry_is t k is_incomplete
meets t k HasConflict = entry_is t k has_conflict
meets t k (Child q) = list_any (λ user. meets t user q && refers_to t user k) (keys_by_rank t)
meets t k (Parent q) = list_any (λ of. meets t of q && refers_to t k of) (keys_by_rank t)
meets t k (Not q) = not (meets t k q)
meets t k (And a b) = meets t k a && meets t k b
meets t k (Or a b) = meets t k a || meets t k b

-- The keys of a table that meet a query, by rank.
abbrev pub found : TableValue → QueryValue → List Key
found t q = filter (λ k. meets t k q) (keys_by_rank t)
