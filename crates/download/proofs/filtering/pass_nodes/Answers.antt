use Rattle.std.proofs.Common.{◌∙◌, ap, List}
use Rattle.std.specs.Prelude.{filter}
use Rattle.osm_base.specs.declared.key.Key.{Key}
use Rattle.opl_file.specs.Objects.{objects_in}
use Rattle.opl_file.proofs.Batches.{Batch}
use Rattle.download.specs.Tell.{references}
use Rattle.download.specs.Filter.{among, on_side}
use Rattle.download.specs.FilterCode.{key_set, is_left, is_way}
use Rattle.download.proofs.filtering.pass_nodes.Goals as goal

pub returns : goal.returns
returns c =
    c.keep_nodes.ensures
    ∙ ap (λ (keys : List Key). filter (is_left c.args.area c.args.wanted.now (among keys)) (objects_in c.args.batches.now.items))
    (c.in_ok-of_ways.ensures ∙ ap (λ (bs : List Batch). key_set (references (filter (on_side is_way) (objects_in bs)))) c.as_slice.ensures.value)
