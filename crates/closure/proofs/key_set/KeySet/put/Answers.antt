use Rattle.std.proofs.Common.{List, [], ◌∷◌, ◌++◌, ap, sym, ◌∙◌}
use Rattle.std.specs.HashSet.{contains}
use Rattle.osm_base.specs.KeyEq.{eq}
use Rattle.osm_base.specs.Rank.{is_key}
use Rattle.osm_base.specs.declared.key.Key.{Key}
use Rattle.closure.specs.Closure.{has}
use Rattle.closure.proofs.Indexed.{found_too}
use Rattle.closure.proofs.key_set.KeySet.put.Goals as goal

pub invariant_of-self-2 : goal.invariant_of-self-2
invariant_of-self-2 c q =
    found_too c.self.inside.keys.items (contains eq c.self.inside.index) (contains eq c.insert.new.self) c.args.key c.self.invariant c.in_ok-insert.ensures.updates.0 q
    ∙ ap (λ (ks : List Key). has is_key ks q) (sym (c.in-Ok.ensures.items ∙ ap (λ (ks : List Key). ks ++ c.args.key ∷ []) c.in_ok-reserve.ensures.items))
