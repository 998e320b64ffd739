use Rattle.std.proofs.Common.{ap, ◌∙◌}
use Rattle.std.specs.FinMap as map
use Rattle.osm_base.specs.RankLaws.{rank_total, rank_exact, rank_ties}
use Rattle.dataset.specs.Draft.{DraftValue}
use Rattle.osm_base.proofs.MapViews.{get_view}
use Rattle.dataset.proofs.draft.Draft.get.Goals as goal

pub returns : goal.returns
returns c = c.get.ensures.value ∙ get_view rank_total rank_exact rank_ties c.self.inside.puts.entries c.args.key ∙ ap (λ (d : DraftValue). map.get d.puts c.args.key) c.self.view_is
