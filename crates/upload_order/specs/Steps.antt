-- Which objects an upload makes, changes and deletes, by their kinds.
--
-- The laws `made_are_told`, `ups_are_told` and `downs_are_told` say that the plan has these, so its parts needn't be known.
use Rattle.std.specs.Prelude.{Bool, ◌==◌, ◌&&◌, List}
use Rattle.std.specs.List.{filter}
use Rattle.osm_base.specs.Rank.{kind_place}
use Rattle.osm_base.specs.declared.key.Key.{Key}
use Rattle.osm_base.specs.declared.key.Kind.{Kind}
use Rattle.osm_table.specs.declared.entry.Entry.{Entry}
use Rattle.osm_table.specs.Table.{TableValue, keys_by_rank}
use Rattle.upload_order.specs.Kinds.{at_key}

-- the keys of a kind whose entries pass a test, by rank
abbrev pub those_of : TableValue → Kind → (Entry → Bool) → List Key
those_of t kind test = filter (λ k. kind_place k.kind == kind_place kind && at_key t test k) (keys_by_rank t)
