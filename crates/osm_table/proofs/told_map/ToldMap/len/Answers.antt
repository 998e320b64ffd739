use Rattle.std.proofs.Common.{ap, ◌∙◌}
use Rattle.std.specs.FinMap as map
use Rattle.osm_table.specs.Told.{ToldValue}
use Rattle.osm_table.proofs.ToldLaws.{told_len}
use Rattle.osm_table.proofs.told_map.ToldMap.len.Goals as goal

pub returns-clause-value : goal.returns-clause-value
returns-clause-value c = c.len.ensures.len ∙ told_len c.self.inside.entries c.self.invariant.2 ∙ ap (λ (m : ToldValue). map.len m.told) c.self.view_is
