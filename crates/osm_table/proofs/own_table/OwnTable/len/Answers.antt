use Rattle.std.proofs.Common.{ap, ◌∙◌}
use Rattle.std.specs.FinMap as map
use Rattle.osm_table.specs.Table.{TableValue}
use Rattle.osm_base.proofs.MapViews.{distinct_len}
use Rattle.osm_base.specs.RankLaws.{rank_total, rank_exact, rank_ties}
use Rattle.osm_table.proofs.own_table.OwnTable.len.Goals as goal

pub returns : goal.returns
returns c = c.len.ensures.len ∙ distinct_len rank_total rank_exact rank_ties c.self.inside.entries c.len.ensures.unique ∙ ap (λ (t : TableValue). map.len t.entries) c.self.view_is
