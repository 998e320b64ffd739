use Rattle.std.proofs.Common.{◌∙◌, sym, ap}
use Rattle.std.specs.Option.{option_map}
use Rattle.osm_table.specs.Told.{ToldValue, told_at, told_of}
use Rattle.osm_table.proofs.OrderLaws.{if_none}
use Rattle.osm_table.proofs.ToldLaws.{told_kept_at}
use Rattle.osm_table.proofs.told_map.ToldMap.place_near.Goals as goal

pub returns-clause-none : goal.returns-clause-none
returns-clause-none c =
    if_none c.place_near.result c.place_near.ensures.none
    (λ none. ap (λ (m : ToldValue). told_at m c.args.key) (sym c.self.view_is) ∙ told_kept_at c.self.inside.entries c.args.key ∙ ap (option_map told_of) none)
