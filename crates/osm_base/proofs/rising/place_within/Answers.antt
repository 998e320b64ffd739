use Rattle.std.proofs.Common.{rules, of_calls}
use Rattle.std.specs.Ordering.{is_lt}
use Rattle.std.proofs.lemmas.List.Sorted.{IsPartitionPoint-from_clause}
use Rattle.osm_base.specs.Rank.{rank_cmp}
use Rattle.osm_base.proofs.Halving.{part_parted, part_place}
use Rattle.osm_base.proofs.rising.place_within.Goals as goal

pub returns : goal.returns
returns c =
    let keys = c.args.keys.now in
    let parted = part_parted c.args.key keys c.args.start c.args.end c.requires.rises c.requires.within in
    let point = IsPartitionPoint-from_clause (λ j. is_lt (rank_cmp j c.args.key)) _ _ c.partition_point.ensures.partitioned parted (λ a r q k. search (rules, of_calls)) in
    part_place c.args.key keys c.args.start c.args.end c.partition_point.result c.requires.rises c.requires.start c.requires.end c.requires.within c.partition_point.ensures.bound point
