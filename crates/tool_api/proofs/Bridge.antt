-- Collected keys that are just those of the table that pass a test, by rank. So a tool collects by look-ups, and never
-- walks the table.
use Rattle.std.proofs.Common.{◌≡◌, ◌&&◌, Bool, List, ◌∙◌}
use Rattle.std.specs.List.{filter}
use Rattle.osm_base.specs.declared.key.Key.{Key}
use Rattle.osm_base.specs.Order.{ranked}
use Rattle.osm_base.proofs.ByRank.{sorted_filter}
use Rattle.osm_base.proofs.RankedKeys.{rises_ranked, named_ranked}
use Rattle.osm_table.specs.Table.{TableValue, keys_by_rank}
use Rattle.tool_api.specs.Checks.{is_named}

pub ranked_filter : (p : Key → Bool) (t : TableValue) (raw : List Key) → ((q : Key) → is_named raw q ≡ (p q && is_named (keys_by_rank t) q)) → ranked raw ≡ filter p (keys_by_rank t)
ranked_filter p t raw alike = sorted_filter p t.entries (ranked raw) (rises_ranked raw) (λ q. named_ranked raw q ∙ alike q)
