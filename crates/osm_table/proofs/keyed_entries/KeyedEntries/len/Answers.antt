use Rattle.std.proofs.Common.{◌∙◌, List, subst}
use Rattle.std.specs.List.{IsDistinct}
use Rattle.osm_base.specs.KeyEq.{eq}
use Rattle.osm_base.specs.declared.key.Key.{Key}
use Rattle.osm_table.proofs.InPlace.{in_place_distinct, kept_keys, kept_len}
use Rattle.osm_table.proofs.keyed_entries.KeyedEntries.len.Goals as goal

pub returns-clause-len : goal.returns-clause-len
returns-clause-len c = c.len.ensures ∙ (kept_len c.self.inside.keys c.self.inside.entries c.self.invariant.1 c.self.view_is).0

pub returns-clause-unique : goal.returns-clause-unique
returns-clause-unique c =
    subst (λ (ks : List Key). IsDistinct eq ks)
    (kept_keys c.self.inside.keys c.self.inside.entries c.self.invariant.1 c.self.view_is)
    (in_place_distinct c.self.inside.keys.items c.self.inside.places c.self.invariant.0)
