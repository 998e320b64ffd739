use Rattle.std.proofs.Common.{rules, []}
use Rattle.std.specs.Ordering.{is_lt}
use Rattle.std.proofs.lemmas.List.Sorted.{IsPartitionPoint-from_clause}
use Rattle.osm_base.specs.Tags.{Pair, bytes_cmp}
use Rattle.osm_base.proofs.TagPlaces.{partition_end, partitioned}
use Rattle.osm_base.proofs.tags.place.Goals as goal
use Rattle.osm_base.proofs.TagLaws.{in_order}

pub returns : goal.returns
returns c =
    let tags = c.args.items.now in
    let key = c.args.key.now in
    partition_end (λ (t : Pair). is_lt (bytes_cmp t.0 key)) tags ([], []) c.partition_point.result c.partition_point.ensures.bound
    (IsPartitionPoint-from_clause (λ (t : Pair). is_lt (bytes_cmp t.0 key)) tags _ c.partition_point.ensures.partitioned (partitioned key tags (in_order tags c.requires)) (λ x b g called. search rules))
