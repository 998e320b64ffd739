use Rattle.std.proofs.Common.{ap, ◌∙◌}
use Rattle.std.specs.Option.{option_map}
use Rattle.osm_table.specs.Told.{ToldValue, told_at, entry_told}
use Rattle.osm_table.proofs.ToldLaws.{entry_kept_at}
use Rattle.osm_table.proofs.told_map.ToldMap.get.Goals as goal

pub returns-clause-value : goal.returns-clause-value
returns-clause-value c = c.get.ensures ∙ entry_kept_at c.self.inside.entries c.args.key c.self.invariant.1 ∙ ap (λ (m : ToldValue). option_map entry_told (told_at m c.args.key)) c.self.view_is
