use Rattle.std.proofs.Common.{ap, ◌∙◌}
use Rattle.std.specs.FinMap as fin
use Rattle.osm_base.proofs.MapViews.{get_view}
use Rattle.osm_base.specs.RankLaws.{rank_total, rank_exact, rank_ties}
use Rattle.server_world.specs.Codes.{Objects}
use Rattle.server_world.proofs.objects.Objects.get.Goals as goal

pub returns : goal.returns
returns c = c.get.ensures.value ∙ get_view rank_total rank_exact rank_ties c.self.inside.entries.entries c.args.key ∙ ap (λ (m : Objects). fin.get m c.args.key) c.self.view_is
