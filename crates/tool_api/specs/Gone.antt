-- What deleting, erasing and purging do.
--
-- For example with w5 Nn1,n2, w6 Nn3,n4 and r9 Mw5@,w6@: `delete n1` is refused as InUse n1 w5. `erase n1` leaves one
-- node in w5, so w5 falls too; n2 has no tags and no other user, so it goes; r9 keeps w6 alone. `purge n1` makes n1
-- Incomplete, since w5 still refers to it.
use Rattle.std.specs.Prelude.{ℕ, ℤ, ◌&&◌, ◌||◌, Bool, true, false, not, nat_lt, if◌then◌else◌, List, [], length, Option, Some, None, Result, Ok}
use Rattle.std.specs.List.{filter, list_any, list_all, dedup}
use Rattle.std.specs.Ordering.{int_eq}
use Rattle.std.specs.Option.{option_map_or}
use Rattle.osm_base.specs.Content.{node}
use Rattle.osm_base.specs.declared.key.Key.{Key}
use Rattle.osm_base.specs.declared.members.Member.{Member}
use Rattle.osm_base.specs.declared.content.Content.{Content}
use Rattle.osm_base.specs.declared.content.Content.TheVariants as content
use Rattle.osm_table.specs.declared.entry.Entry.{Entry}
use Rattle.osm_table.specs.declared.entry.Entry.TheVariants.{Incomplete, Known}
use Rattle.osm_table.specs.Table.{TableValue, entry_of, keys_by_rank}
use Rattle.osm_table.specs.Table.{users}
use Rattle.tool_api.specs.declared.kinds.Kinds.TheVariants.{Any}
use Rattle.tool_api.specs.declared.refusal.Refusal.{Refusal}
use Rattle.tool_api.specs.Checks.{◌>>◌, first_of, is_named, list_tests, twice_test, use_test, purge_entry_test, is_new}
use Rattle.tool_api.specs.Changes.{Outcome, done, changed, edit, delete, content_of}
use Rattle.tool_api.specs.Closing.{closing}
use Rattle.tool_api.specs.Basic.{with_refs, with_members}

-- Delete: list tests; then per key as given InUse with the least user that isn't named. All are deleted.
abbrev pub delete_all : TableValue → List Key → Result Outcome Refusal
delete_all t keys = do
  list_tests t Any keys
  first_of (use_test t keys) keys
  Ok (done (changed t (delete t) keys))

-- whether a key has a user that isn't among these
abbrev pub is_used : TableValue → List Key → Key → Bool
is_used t besides k = list_any (λ u. not (is_named besides u)) (users t k)

-- Purge: NamedTwice; per key Absent, InConflict; then per new object InUse. A key with a user that isn't named becomes
-- Incomplete, any other leaves the table.
abbrev pub purge : TableValue → List Key → Result Outcome Refusal
purge t keys = do
  twice_test [] keys
  first_of (λ k. purge_entry_test k (entry_of t k)) keys
  first_of (λ k. if is_new (entry_of t k) then use_test t keys k else None) keys
  Ok (done (changed t (λ k. if is_used t keys k then Some Incomplete else None) keys))

-- Erase.

-- the references of a way without the named nodes, and of those that stay none that equals the one just before it
abbrev pub mended : List Key → List ℤ → List ℤ
mended named refs = dedup int_eq (filter (λ n. not (is_named named (node n))) refs)

-- whether it is a way with a named node
abbrev pub is_mended_content : List Key → Content → Bool
is_mended_content named (content.Way tags refs) = list_any (λ n. is_named named (node n)) refs
is_mended_content named c = false

-- a living way that isn't named and has a named node is mended
abbrev pub is_mended : TableValue → List Key → Key → Bool
is_mended t named k = not (is_named named k) && option_map_or (is_mended_content named) (content_of t k) false

-- whether it is a way with fewer than two references left
abbrev pub is_short : List Key → Content → Bool
is_short named (content.Way tags refs) = nat_lt (length (mended named refs)) 2
is_short named c = false

-- What falls: the named objects, and the mended ways with fewer than two references left.
abbrev pub falls : TableValue → List Key → Key → Bool
falls t named k = is_named named k || (is_mended t named k && option_map_or (is_short named) (content_of t k) false)

-- a living node without tags and conflict
abbrev pub is_bare : Option Entry → Bool
is_bare (Some (Known base (Some (content.Node [] at)) None)) = true
is_bare e = false

abbrev pub is_way : Content → Bool
is_way (content.Way tags refs) = true
is_way c = false

-- a living node of a way that falls, without tags, conflict or a user that doesn't fall
abbrev pub is_left : TableValue → List Key → Key → Bool
is_left t named k = is_bare (entry_of t k) && list_any (λ u. falls t named u && option_map_or is_way (content_of t u) false) (users t k) && list_all (falls t named) (users t k)

-- What goes: what falls, and the nodes that are left without a use.
abbrev pub goes : TableValue → List Key → Key → Bool
goes t named k = falls t named k || is_left t named k

abbrev pub is_relation : Content → Bool
is_relation (content.Relation tags members) = true
is_relation c = false

-- The members without those whose keys are among the gone.
abbrev pub members_without : (Key → Bool) → List Member → List Member
members_without gone members = filter (λ m. not (gone m.key)) members

-- by rank: what goes, the mended ways that stay, and the relations that stay
abbrev pub gone_keys : TableValue → List Key → List Key
gone_keys t named = filter (goes t named) (keys_by_rank t)

abbrev pub mended_ways : TableValue → List Key → List Key
mended_ways t named = filter (λ k. is_mended t named k && not (falls t named k)) (keys_by_rank t)

abbrev pub relations_left : TableValue → List Key → List Key
relations_left t named = filter (λ k. not (falls t named k) && option_map_or is_relation (content_of t k) false) (keys_by_rank t)

-- What goes is deleted, mended ways take the references that are left, relations lose the members that go.
abbrev pub erased : TableValue → List Key → TableValue
erased t named =
    changed (changed (changed t
    (delete t) (gone_keys t named))
    (edit t (with_refs (mended named))) (mended_ways t named))
    (edit t (with_members (members_without (goes t named)))) (relations_left t named)

-- list tests, closing tests
abbrev pub erase : TableValue → ℕ → List Key → Result Outcome Refusal
erase t limit keys = do
  list_tests t Any keys
  closing t limit keys (done (erased t keys))
