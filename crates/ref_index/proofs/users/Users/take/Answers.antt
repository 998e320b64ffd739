use Rattle.std.proofs.Common.{subst, List, sym}
use Rattle.std.specs.Prelude.{T}
use Rattle.osm_base.specs.declared.key.Key.{Key}
use Rattle.osm_base.specs.RisingKeys.{rises}
use Rattle.ref_index.specs.Listed.{listed}
use Rattle.osm_base.proofs.RisingKeys.{rises_without}
use Rattle.ref_index.proofs.users.Users.take.Goals as goal

pub invariant_of-self : goal.invariant_of-self
invariant_of-self c = subst (λ (ks : List Key). T (rises ks)) (sym c.take_item.ensures) (rises_without c.args.key (listed c.self.inside.items) c.self.invariant)
