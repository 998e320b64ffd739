use Rattle.std.proofs.Common.{◌∙◌, ap, refl, List}
use Rattle.std.specs.Prelude.{filter}
use Rattle.std.proofs.lemmas.Result.{on_ok_weaker}
use Rattle.opl_file.specs.Objects.{keys_of, objects_in}
use Rattle.opl_file.proofs.Batches.{Batch}
use Rattle.download.specs.Tell.{references}
use Rattle.download.specs.Filter.{among, is_related, near, on_side}
use Rattle.download.specs.FilterCode.{key_set, is_way, is_place}
use Rattle.download.proofs.Passes.{passes}
use Rattle.download.proofs.filtering.leave_kept.Goals as goal

pub returns : goal.returns
returns c =
    let objects = objects_in c.args.batches.now.items in
    let ways = objects_in c.pass_ways.new.batches.items in
    let nodes = objects_in c.pass_nodes.new.batches.items in
    let places = among c.in_ok-places.places in
    on_ok_weaker c.pass_relations-passed.result
    (passes c.args.area c.args.wanted.now objects ways nodes (objects_in c.pass_relations-passed.new.batches.items)
    (near c.args.area objects) (among (key_set (references (filter (on_side is_way) ways)))) places (among (key_set (keys_of (filter (on_side (is_related places)) nodes))))
    refl c.in_ok-pass_ways.ensures refl c.in_ok-pass_nodes.ensures
    (ap among (c.in_ok-places.ensures ∙ ap (λ (bs : List Batch). key_set (keys_of (filter (on_side is_place) (objects_in bs)))) c.as_slice.ensures.value))
    refl)
    c.pass_relations-passed.ensures
