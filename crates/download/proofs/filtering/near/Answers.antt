use Rattle.std.proofs.Common.{◌∙◌, ap, sym, List, Option, Some}
use Rattle.std.specs.Prelude.{filter}
use Rattle.osm_base.specs.declared.key.Key.{Key}
use Rattle.osm_base.specs.declared.area.Area.{Area}
use Rattle.opl_file.specs.Objects.{keys_of, objects_in}
use Rattle.download.specs.Filter.{among, is_near, near, on_side}
use Rattle.download.proofs.Sets.{set_of}
use Rattle.download.proofs.filtering.near.Goals as goal

pub returns-in_ok-nodes_in-in-Some : goal.returns-in_ok-nodes_in-in-Some
returns-in_ok-nodes_in-in-Some c =
    ap (λ (keys : List Key). Some (among keys)) c.in_ok-nodes_in-in-Some.ensures
    ∙ ap Some (set_of (keys_of (filter (on_side (is_near (Some c.in-Some.area))) (objects_in c.args.batches.now))))
    ∙ ap (λ (area : Option Area). near area (objects_in c.args.batches.now)) (sym c.in-Some.is)
