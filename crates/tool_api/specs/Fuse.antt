-- What fusing nodes does: nodes at one place become one.
--
-- For example with n1 and n3 at one place and w5 Nn1,n2,n3 `fuse n3,n1` keeps n3, with the tags of both, and w5 is
-- Nn3,n2,n3; n1 is deleted. `fuse n1,n2` is refused as NotSamePlace n2, if n2 lies elsewhere.
use Rattle.std.specs.Prelude.{ℕ, ℤ, ◌&&◌, not, if◌then◌else◌, List, [], ◌∷◌, Option, None, Result}
use Rattle.std.specs.List.{filter, list_any, dedup}
use Rattle.std.specs.Option.{option_map_or}
use Rattle.std.specs.Ordering.{int_eq}
use Rattle.osm_base.specs.Rank.{is_key}
use Rattle.osm_base.specs.declared.key.Key.{Key}
use Rattle.osm_base.specs.declared.content.Content.{Content}
use Rattle.osm_table.specs.Table.{TableValue, keys_by_rank, users}
use Rattle.renamed_content.specs.Renamed.{renamed}
use Rattle.tool_api.specs.declared.kinds.Kinds.TheVariants.{Nodes}
use Rattle.tool_api.specs.declared.refusal.Refusal.{Refusal}
use Rattle.tool_api.specs.declared.refusal.Refusal.TheVariants.{NotSamePlace}
use Rattle.tool_api.specs.Checks.{◌>>◌, first_of, when, is_named, list_tests}
use Rattle.tool_api.specs.Changes.{Outcome, done, changed, edit, delete}
use Rattle.tool_api.specs.Closing.{closing}
use Rattle.tool_api.specs.Basic.{with_tags, with_refs}
use Rattle.tool_api.specs.Combine.{kept_way, all_tags, united, clash_test}
use Rattle.tool_api.specs.Findings.{are_together}

-- NotSamePlace with the first that isn't at the place of the first
abbrev pub place_test : TableValue → List Key → Option Refusal
place_test t [] = None
place_test t (first ∷ nodes) = first_of (λ k. when (not (are_together t first k)) (NotSamePlace k)) nodes

-- the first node with a positive id, else the first, as of ways that are combined
abbrev pub kept_node : List Key → Option Key
kept_node nodes = kept_way nodes

-- what a key is called: each of the nodes as the kept one
abbrev pub fused_key : List Key → Key → Key → Key
fused_key nodes kept k = if is_named nodes k then kept else k

-- of each run of a node side by side a single one stays
abbrev pub without_runs : ℤ → List ℤ → List ℤ
without_runs id refs = dedup (λ a b. int_eq a id && int_eq b id) refs

-- A content that refers to the kept node in place of the others, a way once for each run of it.
abbrev pub fused_content : List Key → Key → Content → Content
fused_content nodes kept c = with_refs (without_runs kept.id) (renamed (fused_key nodes kept) c)

-- the living ways and relations that refer to one of the nodes
abbrev pub users_among : TableValue → List Key → List Key
users_among t nodes = filter (λ k. list_any (λ n. is_named (users t n) k) nodes) (keys_by_rank t)

-- Users of the nodes refer to the kept one, the others are deleted, and it gets all tags.
abbrev pub fused : TableValue → List Key → Key → TableValue
fused t nodes kept =
    changed (changed (changed t
    (edit t (fused_content nodes kept)) (users_among t nodes))
    (delete t) (filter (λ k. not (is_key kept k)) nodes))
    (edit t (with_tags (λ _. united (all_tags t nodes)))) (kept ∷ [])

-- the same, where there is a node to keep
abbrev pub fused_table : TableValue → List Key → Option Key → TableValue
fused_table t nodes kept = option_map_or (fused t nodes) kept t

-- Fuse: list tests (nodes); NotSamePlace; TagClash; closing tests.
abbrev pub fuse : TableValue → ℕ → List Key → Result Outcome Refusal
fuse t limit nodes = do
  list_tests t Nodes nodes
  place_test t nodes
  clash_test (all_tags t nodes)
  closing t limit nodes (done (fused_table t nodes (kept_node nodes)))
