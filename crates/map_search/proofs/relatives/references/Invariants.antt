use Rattle.std.proofs.Common.{◌≡◌, ◌++◌, drop}
use Rattle.std.specs.List.{flat_map}
use Rattle.dataset.specs.Exact.{refs_at}
use Rattle.osm_table.specs.Table.{entry_of}
use Rattle.map_search.proofs.relatives.references.Given as goal

abbrev pub invariant-loop-key : goal.invariant-loop-key
invariant-loop-key l = l.refs.items ++ flat_map (λ k. refs_at (entry_of l.ds k)) (drop l.key-index l.keys) ≡ flat_map (λ k. refs_at (entry_of l.ds k)) l.keys
