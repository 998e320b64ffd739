-- What adding, tagging, moving, changing and reversing do.
--
-- For example in a table with n1 and n2, `way T Nn1,n2` makes w-1; `tag w-1 Thighway=path,name=` sets the one tag and
-- takes the other away; `move w-1 0.1 0` moves n1 and n2; `nodes w-1 Nn2,n1` keeps the tags.
use Rattle.std.specs.Prelude.{ℕ, ℤ, ◌&&◌, ◌||◌, Bool, false, List, [], ◌∷◌, reverse, Option, Some, None, Result}
use Rattle.std.specs.List.{filter, list_any, fold}
use Rattle.std.specs.Option.{option_map_or, unwrap_or, is_none}
use Rattle.osm_base.specs.Content.{kind_of_content, refs_of, refers}
use Rattle.osm_base.specs.Place.{shifted}
use Rattle.osm_base.specs.Tags.{Pair, with_tag, without_tag}
use Rattle.osm_base.specs.declared.key.Key.{Key}
use Rattle.osm_base.specs.declared.coord.Coord.{Coord}
use Rattle.osm_base.specs.declared.members.Member.{Member}
use Rattle.osm_base.specs.declared.content.Content.{Content}
use Rattle.osm_base.specs.declared.content.Content.TheVariants as content
use Rattle.osm_table.specs.declared.entry.Entry.{Entry}
use Rattle.osm_table.specs.declared.entry.Entry.TheVariants.{Incomplete, Known}
use Rattle.osm_table.specs.Table.{TableValue, entry_of, keys_by_rank}
use Rattle.tool_api.specs.declared.kinds.Kinds.TheVariants.{Any, Nodes, Ways, Relations, NodesAndWays}
use Rattle.tool_api.specs.declared.refusal.Refusal.{Refusal}
use Rattle.tool_api.specs.declared.refusal.Refusal.TheVariants.{IncompleteObject, OutOfRange}
use Rattle.tool_api.specs.Checks.{◌>>◌, first_of, when, is_named, takes, conflict_test, target_test, list_tests, ref_tests}
use Rattle.tool_api.specs.Changes.{Outcome, done, changed, edit, added, new_key, content_of}
use Rattle.tool_api.specs.Closing.{closing}

-- A new object: reference tests, closing tests. The reply has its key.
abbrev pub add : TableValue → ℕ → Content → Result Outcome Refusal
add t limit c = do
  ref_tests t (refs_of c)
  closing t limit [] (record { keys = new_key (kind_of_content c) t.next ∷ []; table = added t c })

-- a pair with a value is set, a key with an empty value removed
abbrev pub retag_one : List Pair → Pair → List Pair
retag_one tags (k, []) = without_tag tags k
retag_one tags (k, b ∷ bs) = with_tag tags k (b ∷ bs)

-- one pair after the other
abbrev pub retagged : List Pair → List Pair → List Pair
retagged tags pairs = fold retag_one tags pairs

-- A content with one part edited; one of another kind stays.
--
-- an object with other tags
abbrev pub with_tags : (List Pair → List Pair) → Content → Content
with_tags f (content.Node tags at) = content.Node (f tags) at
with_tags f (content.Way tags refs) = content.Way (f tags) refs
with_tags f (content.Relation tags members) = content.Relation (f tags) members

-- Tags set in each of the objects: list tests (any kind), closing tests.
abbrev pub set_tags : TableValue → ℕ → List Key → List Pair → Result Outcome Refusal
set_tags t limit keys pairs = do
  list_tests t Any keys
  closing t limit keys (done (changed t (edit t (with_tags (λ tags. retagged tags pairs))) keys))

-- a node at another place
abbrev pub with_place : (Coord → Coord) → Content → Content
with_place f (content.Node tags at) = content.Node tags (f at)
with_place f c = c

-- a way with other nodes
abbrev pub with_refs : (List ℤ → List ℤ) → Content → Content
with_refs f (content.Way tags refs) = content.Way tags (f refs)
with_refs f c = c

-- a relation with other members
abbrev pub with_members : (List Member → List Member) → Content → Content
with_members f (content.Relation tags members) = content.Relation tags (f members)
with_members f c = c

-- a place moved by so much, in units of 10^-7 degree; one that would leave the map stays
abbrev pub moved : ℤ → ℤ → Coord → Coord
moved dx dy at = unwrap_or (shifted at dx dy) at

-- whether a key is a living way that refers to the node
abbrev pub has_node : TableValue → Key → Key → Bool
has_node t n k = option_map_or (λ c. refers c n) (content_of t k) false

-- whether it is a node that is named, or one of a way that is named
abbrev pub is_moved : TableValue → List Key → Key → Bool
is_moved t keys n = takes Nodes n.kind && (is_named keys n || list_any (has_node t n) keys)

-- the nodes named, and those of the ways named, by rank
abbrev pub moved_nodes : TableValue → List Key → List Key
moved_nodes t keys = filter (is_moved t keys) (keys_by_rank t)

-- one node that is moved: not Incomplete, not in conflict, and still on the map
abbrev pub move_entry_test : ℤ → ℤ → Key → Option Entry → Option Refusal
move_entry_test dx dy n None = None
move_entry_test dx dy n (Some Incomplete) = Some (IncompleteObject n)
move_entry_test dx dy n (Some (Known base (Some (content.Node tags at)) None)) = when (is_none (shifted at dx dy)) (OutOfRange n)
move_entry_test dx dy n (Some (Known base mine conflict)) = conflict_test n conflict

-- A move: list tests (nodes and ways); then per moved node by rank IncompleteObject, InConflict, OutOfRange; closing tests.
abbrev pub shift : TableValue → ℕ → List Key → ℤ → ℤ → Result Outcome Refusal
shift t limit keys dx dy = do
  list_tests t NodesAndWays keys
  first_of (λ n. move_entry_test dx dy n (entry_of t n)) (moved_nodes t keys)
  closing t limit keys (done (changed t (edit t (with_place (moved dx dy))) (moved_nodes t keys)))

-- Another place: target tests (nodes), closing tests. The tags stay.
abbrev pub place : TableValue → ℕ → Key → Coord → Result Outcome Refusal
place t limit key at = do
  target_test t Nodes key
  closing t limit (key ∷ []) (done (changed t (edit t (with_place (λ _. at))) (key ∷ [])))

-- Other nodes: target tests (ways), reference tests, closing tests. The tags stay.
abbrev pub set_nodes : TableValue → ℕ → Key → List ℤ → Result Outcome Refusal
set_nodes t limit key refs = do
  target_test t Ways key
  ref_tests t (refs_of (content.Way [] refs))
  closing t limit (key ∷ []) (done (changed t (edit t (with_refs (λ _. refs))) (key ∷ [])))

-- Other members: target tests (relations), reference tests, closing tests. The tags stay; a relation may refer to itself.
abbrev pub set_members : TableValue → ℕ → Key → List Member → Result Outcome Refusal
set_members t limit key members = do
  target_test t Relations key
  ref_tests t (refs_of (content.Relation [] members))
  closing t limit (key ∷ []) (done (changed t (edit t (with_members (λ _. members))) (key ∷ [])))

-- A way turned round: target tests (ways), closing tests. Its references are reversed, its tags stay.
abbrev pub reversed : TableValue → ℕ → Key → Result Outcome Refusal
reversed t limit way = do
  target_test t Ways way
  closing t limit (way ∷ []) (done (changed t (edit t (with_refs reverse)) (way ∷ [])))
