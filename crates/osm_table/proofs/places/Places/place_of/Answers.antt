use Rattle.std.proofs.Common.{◌∙◌, sym, subst}
use Rattle.osm_table.specs.InOrder.{IsPlace, AreInPlace}
use Rattle.osm_table.proofs.places.Places.place_of.Goals as goal

pub returns-in-Hashed : goal.returns-in-Hashed
returns-in-Hashed c =
    let kept = subst (AreInPlace c.args.keys.now) c.in-Hashed.is c.requires in
    subst (IsPlace c.args.keys.now c.args.key) (sym (c.copied.ensures ∙ c.get.ensures.value)) (kept.1 c.args.key)
