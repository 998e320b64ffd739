use Rattle.std.proofs.Common.{List, ap, ◌∙◌}
use Rattle.osm_base.specs.KeyEq.{eq}
use Rattle.osm_base.specs.declared.key.Key.{Key}
use Rattle.closure.specs.Closure.{has}
use Rattle.closure.proofs.Indexed.{found}
use Rattle.closure.proofs.key_set.KeySet.from_vec.Goals as goal

pub invariant_of-result : goal.invariant_of-result
invariant_of-result c q = c.in_ok-index.ensures.0 q ∙ ap (λ (ks : List Key). has eq ks q) c.deref.ensures.value ∙ found q c.args.keys.items
