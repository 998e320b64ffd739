use Rattle.std.proofs.Common.{◌≡◌, ◌++◌, drop}
use Rattle.std.specs.List.{flat_map}
use Rattle.tool_api.specs.Changes.{content_of}
use Rattle.tools_delete.specs.Touched.{way_nodes}
use Rattle.tools_delete.proofs.touched.all_nodes.Given as goal

abbrev pub invariant-loop-key : goal.invariant-loop-key
invariant-loop-key l = l.nodes.items ++ flat_map (λ k. way_nodes (content_of l.ds k)) (drop l.key-index l.keys) ≡ flat_map (λ k. way_nodes (content_of l.ds k)) l.keys
