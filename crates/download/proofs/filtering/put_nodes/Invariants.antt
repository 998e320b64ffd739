use Rattle.std.proofs.Common.{◌≡◌, drop, map}
use Rattle.std.specs.Prelude.{fold}
use Rattle.osm_base.specs.Content.{node}
use Rattle.download.specs.FilterCode.{with_key}
use Rattle.download.proofs.filtering.put_nodes.Given as goal

abbrev pub invariant-loop-id : goal.invariant-loop-id
invariant-loop-id l = fold with_key l.keys (map node (drop l.id-index l.ids)) ≡ fold with_key l.fn.keys (map node l.ids)
