use Rattle.std.proofs.Common.{◌∙◌, ap, Bool, List, Option}
use Rattle.std.specs.Prelude.{filter}
use Rattle.osm_base.specs.declared.key.Key.{Key}
use Rattle.opl_file.specs.Objects.{objects_in}
use Rattle.opl_file.proofs.Batches.{Batch}
use Rattle.download.specs.Filter.{near, on_side}
use Rattle.download.specs.FilterCode.{way_left}
use Rattle.download.proofs.filtering.pass_ways.Goals as goal

pub returns : goal.returns
returns c =
    c.keep_ways.ensures
    ∙ ap (λ (n : Option (Key → Bool)). filter (on_side (way_left c.args.wanted.now n)) (objects_in c.args.batches.now.items))
    (c.in_ok-near.ensures ∙ ap (λ (bs : List Batch). near c.args.area (objects_in bs)) c.as_slice.ensures.value)
