use Rattle.std.proofs.Common.{subst, List, sym}
use Rattle.std.specs.Prelude.{T}
use Rattle.osm_base.specs.declared.key.Key.{Key}
use Rattle.osm_base.specs.RisingKeys.{rises}
use Rattle.ref_index.specs.Listed.{listed}
use Rattle.osm_base.proofs.RisingKeys.{rises_with}
use Rattle.ref_index.proofs.users.Users.put.Goals as goal

pub invariant_of-self-2 : goal.invariant_of-self-2
invariant_of-self-2 c = subst (λ (ks : List Key). T (rises ks)) (sym c.in_ok-first.ensures.ok) (rises_with c.args.key (listed c.self.inside.items) c.self.invariant)
