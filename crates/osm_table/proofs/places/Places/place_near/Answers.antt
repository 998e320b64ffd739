use Rattle.std.proofs.Common.{◌∙◌, sym, subst}
use Rattle.osm_base.proofs.Halving.{stands_there}
use Rattle.osm_table.specs.InOrder.{IsPlace, AreInPlace}
use Rattle.osm_table.proofs.places.Places.place_near.Goals as goal

pub returns-then-stands_at : goal.returns-then-stands_at
returns-then-stands_at c = stands_there c.args.key c.args.keys.now c.args.near (sym c.stands_at.ensures ∙ c.if-stands_at.true)

pub returns-in-Hashed : goal.returns-in-Hashed
returns-in-Hashed c =
    let kept = subst (AreInPlace c.args.keys.now) c.in-Hashed.is c.requires in
    subst (IsPlace c.args.keys.now c.args.key) (sym (c.copied.ensures ∙ c.get.ensures.value)) (kept.1 c.args.key)
