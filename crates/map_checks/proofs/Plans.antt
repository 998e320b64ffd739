-- How a fuse ends: refused by its first test that fails, or by the closing tests, or done.
use Rattle.std.proofs.Common.{◌≡◌, ℕ, List, [], Option, Some, None, Result, sym, ap, ◌∙◌}
use Rattle.osm_base.specs.declared.key.Key.{Key}
use Rattle.osm_table.specs.Table.{TableValue}
use Rattle.tool_api.specs.declared.kinds.Kinds.TheVariants.{Nodes}
use Rattle.tool_api.specs.declared.refusal.Refusal.{Refusal}
use Rattle.tool_api.specs.Checks.{◌>>◌, list_tests}
use Rattle.tool_api.specs.Changes.{Outcome, done}
use Rattle.tool_api.specs.Closing.{closing}
use Rattle.tool_api.specs.Combine.{all_tags, clash_test}
use Rattle.tool_api.specs.Fuse.{place_test, kept_node, fused, fused_table, fuse}

-- what a fuse into a node that is kept ends as
abbrev fuse_end : TableValue → ℕ → List Key → Option Key → Result Outcome Refusal
fuse_end t limit nodes kept = closing t limit nodes (done (fused_table t nodes kept))

module _ (t : TableValue) (limit : ℕ) (nodes : List Key) where
  -- whatever the tests answer, they decide one after the other
  pub fuse_at : (a b c : Option Refusal) → a ≡ list_tests t Nodes nodes → b ≡ place_test t nodes → c ≡ clash_test (all_tags t nodes) → fuse t limit nodes ≡ (a >> (b >> (c >> fuse_end t limit nodes (kept_node nodes))))
  fuse_at a b c tests places clash i = sym tests i >> (sym places i >> (sym clash i >> fuse_end t limit nodes (kept_node nodes)))

  pub fuse_ends : (u : TableValue) (kept : Key) (keys : List Key) → None ≡ list_tests t Nodes nodes → None ≡ place_test t nodes → None ≡ clash_test (all_tags t nodes)
      → kept_node nodes ≡ Some kept → keys ≡ [] → u ≡ fused t nodes kept → closing t limit nodes (record { keys = keys; table = u }) ≡ fuse t limit nodes
  fuse_ends u kept keys tests places clash is nil there =
      (λ i. closing t limit nodes (record { keys = nil i; table = there i }))
      ∙ sym (fuse_at None None None tests places clash ∙ ap (fuse_end t limit nodes) is)
