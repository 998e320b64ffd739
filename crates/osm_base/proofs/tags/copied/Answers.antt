use Rattle.std.proofs.Common.{sym, ◌∙◌, ap}
use Rattle.osm_base.specs.Boxed.{items_of}
use Rattle.osm_base.proofs.Cloned.{pairs_cloned}
use Rattle.osm_base.proofs.tags.copied.Goals as goal

pub returns-in_ok-clone-in-Some : goal.returns-in_ok-clone-in-Some
returns-in_ok-clone-in-Some c =
    pairs_cloned c.in-Some.list.value.items c.in_ok-clone-in-Some.field-0.value.items c.in_ok-clone-in-Some.ensures.cases.0
    ∙ sym (ap items_of c.in-Some.is)
