-- What combining ways does.
--
-- For example `combine w1,w2` of w1 Nn1,n2 and w2 Nn3,n2 gives w1 Nn1,n2,n3: the second way is taken backward, since
-- its last node is the end so far. w2 is deleted, and w1 has the tags of both.
use Rattle.std.specs.Prelude.{ℕ, ℤ, pos, negsuc, ◌&&◌, ◌||◌, Bool, true, false, not, if◌then◌else◌, List, [], ◌∷◌, ◌++◌, drop, reverse, Option, Some, None, Result, Ok, Err}
use Rattle.std.specs.List.{filter, list_any, find, flat_map, fold, last_or}
use Rattle.std.specs.Ordering.{int_eq}
use Rattle.std.specs.Option.{option_map, option_map_or, option_or, unwrap_or, is_none}
use Rattle.osm_base.specs.Rank.{is_key}
use Rattle.osm_base.specs.Tags.{Pair, with_tag}
use Rattle.osm_base.specs.declared.key.Key.{Key}
use Rattle.osm_base.specs.declared.key.Kind.TheVariants as kinds
use Rattle.osm_base.specs.declared.content.Content.{Content}
use Rattle.osm_base.specs.declared.content.Content.TheVariants as content
use Rattle.osm_table.specs.Table.{TableValue, keys_by_rank}
use Rattle.tool_api.specs.declared.kinds.Kinds.TheVariants.{Ways}
use Rattle.tool_api.specs.declared.refusal.Refusal.{Refusal}
use Rattle.tool_api.specs.declared.refusal.Refusal.TheVariants.{NotJoined, TagClash, MemberClash}
use Rattle.osm_base.specs.Same.{same_text}
use Rattle.tool_api.specs.Checks.{◌>>◌, ◌>>=◌, first_of, when, is_named, list_tests}
use Rattle.tool_api.specs.Changes.{Outcome, done, changed, edit, delete, content_of}
use Rattle.tool_api.specs.Closing.{closing}
use Rattle.osm_table.specs.Table.{users}
use Rattle.tool_api.specs.Gone.{is_relation}
use Rattle.tool_api.specs.Upkeep.{first_in, folded}
use Rattle.tool_api.specs.Split.{way_refs, tags_at, complete_test}

-- the references of a living way by its key
abbrev pub refs_at : TableValue → Key → List ℤ
refs_at t k = way_refs (content_of t k)

-- per way as given: its first Incomplete reference, or no references
abbrev pub way_test : TableValue → Key → Option Refusal
way_test t k = option_or (complete_test t (refs_at t k)) (when (is_none (first_in (refs_at t k))) (NotJoined k))

-- both are there, and the same node
abbrev pub same_end : Option ℤ → Option ℤ → Bool
same_end (Some a) (Some b) = int_eq a b
same_end a b = false

-- the last reference
abbrev pub last_in : List ℤ → Option ℤ
last_in refs = last_or None refs

-- whether a node is the first or last of the references
abbrev pub is_end : Option ℤ → List ℤ → Bool
is_end n refs = same_end n (first_in refs) || same_end n (last_in refs)

-- the first way forward where its last node is an end of the second, else backward
abbrev pub first_way : Key → List ℤ → List ℤ → Result (List ℤ) Refusal
first_way second refs next =
    if is_end (last_in refs) next then Ok refs
    else (if is_end (first_in refs) next then Ok (reverse refs) else Err (NotJoined second))

-- a next way forward where its first node is the end so far, else backward
abbrev pub next_way : Key → List ℤ → List ℤ → Result (List ℤ) Refusal
next_way k so_far refs =
    if same_end (last_in so_far) (first_in refs) then Ok (so_far ++ drop 1 refs)
    else (if same_end (last_in so_far) (last_in refs) then Ok (so_far ++ drop 1 (reverse refs)) else Err (NotJoined k))

-- the ways joined to what is joined so far, one after the other
abbrev pub joined_on : TableValue → List ℤ → List Key → Result (List ℤ) Refusal
joined_on t so_far [] = Ok so_far
joined_on t so_far (k ∷ ks) = do
  longer ← next_way k so_far (refs_at t k)
  joined_on t longer ks

-- The references of all, each joint once.
abbrev pub joined : TableValue → List Key → Result (List ℤ) Refusal
joined t [] = Ok []
joined t (k ∷ []) = Ok (refs_at t k)
joined t (k ∷ second ∷ ks) = do
  first ← first_way second (refs_at t k) (refs_at t second)
  joined_on t first (second ∷ ks)

-- the tags of all the ways, one after the other
abbrev pub all_tags : TableValue → List Key → List Pair
all_tags t ways = flat_map (tags_at t) ways

-- each key once, by bytes
abbrev pub united : List Pair → List Pair
united tags = fold (λ so_far t. with_tag so_far t.0 t.1) [] tags

-- TagClash with the least key by bytes that has two values
abbrev pub clash_test : List Pair → Option Refusal
clash_test tags = option_map (λ (p : Pair). TagClash p.0) (find (λ p. list_any (λ q. same_text p.0 q.0 && not (same_text p.1 q.1)) tags) (united tags))

-- whether a living relation's members don't meet the run rule
abbrev pub clashes : List Key → Option Content → Bool
clashes ways (Some (content.Relation tags members)) = is_none (folded ways (record { kind = kinds.Way; id = pos 0 }) members)
clashes ways c = false

-- MemberClash with the least living relation whose members don't meet the run rule
abbrev pub member_test : TableValue → List Key → Option Refusal
member_test t ways = option_map MemberClash (find (λ k. clashes ways (content_of t k)) (keys_by_rank t))

-- whether a server gave the id
abbrev pub is_positive : ℤ → Bool
is_positive (pos n) = true
is_positive (negsuc n) = false

-- the first way with a positive id, else the first
abbrev pub kept_way : List Key → Option Key
kept_way ways = option_or (find (λ k. is_positive k.id) ways) (first_in ways)

-- a way with all the references and tags
abbrev pub as_way : List ℤ → List Pair → Content → Content
as_way refs tags c = content.Way tags refs

-- a relation with each run as one member
abbrev pub fold_runs : List Key → Key → Content → Content
fold_runs ways kept (content.Relation tags members) = content.Relation tags (unwrap_or (folded ways kept members) members)
fold_runs ways kept c = c

-- the living relations with a member among the ways
abbrev pub relations_among : TableValue → List Key → List Key
relations_among t ways = filter (λ k. option_map_or is_relation (content_of t k) false && list_any (λ w. is_named (users t w) k) ways) (keys_by_rank t)

-- The kept way takes references and tags, the others are deleted, each run becomes the kept way.
abbrev pub combined : TableValue → List Key → List ℤ → Key → TableValue
combined t ways refs kept =
    changed (changed (changed t
    (edit t (fold_runs ways kept)) (relations_among t ways))
    (delete t) (filter (λ k. not (is_key kept k)) ways))
    (edit t (as_way refs (united (all_tags t ways)))) (kept ∷ [])

-- the same, where there is a way to keep
abbrev pub combined_table : TableValue → List Key → List ℤ → Option Key → TableValue
combined_table t ways refs kept = option_map_or (combined t ways refs) kept t

-- Combine: list tests (ways); per way; the joining; TagClash; MemberClash; closing tests.
abbrev pub combine : TableValue → ℕ → List Key → Result Outcome Refusal
combine t limit ways = do
  list_tests t Ways ways
  first_of (way_test t) ways
  refs ← joined t ways
  clash_test (all_tags t ways)
  member_test t ways
  closing t limit ways (done (combined_table t ways refs (kept_way ways)))
