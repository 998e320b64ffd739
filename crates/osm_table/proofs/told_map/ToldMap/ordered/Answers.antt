use Rattle.std.proofs.Common.{◌≡◌, ◌∙◌, ap, subst, IfOk, List}
use Rattle.std.specs.FinMap as map
use Rattle.osm_base.specs.declared.key.Key.{Key}
use Rattle.osm_table.specs.Told.{ToldValue}
use Rattle.osm_table.proofs.ToldLaws.{keys_kept}
use Rattle.osm_table.proofs.told_map.ToldMap.ordered.Goals as goal

pub returns : goal.returns
returns c =
    subst (λ (ks : List Key). IfOk c.ordered.result (λ (keys : List Key). keys ≡ ks))
    (keys_kept c.self.inside.entries ∙ ap (λ (m : ToldValue). map.keys m.told) c.self.view_is)
    c.ordered.ensures
