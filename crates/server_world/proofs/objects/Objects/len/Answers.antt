use Rattle.std.proofs.Common.{ap, ◌∙◌}
use Rattle.std.specs.FinMap as fin
use Rattle.osm_base.specs.RankLaws.{rank_total, rank_exact, rank_ties}
use Rattle.osm_base.proofs.MapViews.{distinct_len}
use Rattle.server_world.specs.Codes.{Objects}
use Rattle.server_world.proofs.objects.Objects.len.Goals as goal

pub returns : goal.returns
returns c = c.len.ensures.len ∙ distinct_len rank_total rank_exact rank_ties c.self.inside.entries.entries c.len.ensures.unique ∙ ap (λ (m : Objects). fin.len m) c.self.view_is
