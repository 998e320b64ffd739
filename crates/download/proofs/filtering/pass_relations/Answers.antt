use Rattle.std.proofs.Common.{◌∙◌, ap, List}
use Rattle.std.specs.Prelude.{filter}
use Rattle.osm_base.specs.declared.key.Key.{Key}
use Rattle.opl_file.specs.Objects.{keys_of, objects_in}
use Rattle.opl_file.proofs.Batches.{Batch}
use Rattle.download.specs.Filter.{among, is_related, on_side}
use Rattle.download.specs.FilterCode.{key_set, relation_left}
use Rattle.download.proofs.filtering.pass_relations.Goals as goal

pub returns : goal.returns
returns c =
    c.keep_relations.ensures
    ∙ ap (λ (keys : List Key). filter (on_side (relation_left (among c.args.places.now) (among keys))) (objects_in c.args.batches.now.items))
    (c.in_ok-relations.ensures ∙ ap (λ (bs : List Batch). key_set (keys_of (filter (on_side (is_related (among c.args.places.now))) (objects_in bs)))) c.as_slice.ensures.value)
