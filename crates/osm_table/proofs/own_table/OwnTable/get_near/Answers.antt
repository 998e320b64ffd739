use Rattle.std.proofs.Common.{ap, ◌∙◌}
use Rattle.osm_table.specs.Table.{TableValue, entry_of}
use Rattle.osm_base.proofs.MapViews.{get_view}
use Rattle.osm_base.specs.RankLaws.{rank_total, rank_exact, rank_ties}
use Rattle.osm_table.proofs.own_table.OwnTable.get_near.Goals as goal

pub returns : goal.returns
returns c = c.get_near.ensures ∙ get_view rank_total rank_exact rank_ties c.self.inside.entries c.args.key ∙ ap (λ (t : TableValue). entry_of t c.args.key) c.self.view_is
