use Rattle.std.proofs.Common.{sym, subst}
use Rattle.osm_table.specs.InOrder.{IsPlace, AreInPlace}
use Rattle.osm_table.proofs.places.Places.reserve.Goals as goal

pub returns-in_ok-reserve : goal.returns-in_ok-reserve
returns-in_ok-reserve c ks h =
    let kept = subst (AreInPlace ks) c.in-Hashed.is h in
    (kept.0, λ k. subst (IsPlace ks k) (sym (c.reserve.ensures.entries.2 k)) (kept.1 k))
