use Rattle.std.proofs.Common.{◌++◌, ◌∷◌, [], sym, subst}
use Rattle.std.specs.HashMap.{get}
use Rattle.osm_base.specs.KeyEq.{eq}
use Rattle.osm_table.specs.InOrder.{IsPlace, AreInPlace}
use Rattle.osm_table.proofs.PlaceLaws.{distinct_front, place_back, rises_front}
use Rattle.osm_table.proofs.places.Places.take_back.Goals as goal

pub returns-in-Rising : goal.returns-in-Rising
returns-in-Rising c ks new h = subst (AreInPlace ks) (sym c.in-Rising.is) (rises_front ks c.args.key (subst (AreInPlace (ks ++ c.args.key ∷ [])) c.in-Rising.is h))

pub returns-in-Hashed : goal.returns-in-Hashed
returns-in-Hashed c ks new h =
    let kept = subst (AreInPlace (ks ++ c.args.key ∷ [])) c.in-Hashed.is h in (
      distinct_front ks c.args.key kept.0,
      λ k. subst (IsPlace ks k) (sym (c.remove.ensures.updates.0 k)) (place_back ks c.args.key k (get eq c.in-Hashed.places k) new (kept.1 k)),
    )
