use Rattle.std.proofs.Common.{sym, subst}
use Rattle.osm_table.specs.Told.{ToldValue, IsClosed}
use Rattle.osm_table.proofs.told_map.ToldMap.close.Goals as goal

pub invariant_of-self : goal.invariant_of-self
invariant_of-self c = (
  c.self.invariant.0,
  c.self.invariant.1,
  c.self.invariant.2,
  c.self.invariant.3,
  c.self.invariant.4,
  λ _. subst (λ (m : ToldValue). IsClosed m.told) (sym c.self.view_is) c.requires,
)
