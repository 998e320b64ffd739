use Rattle.std.proofs.Common.{ap, ◌∙◌}
use Rattle.std.specs.FinMap as map
use Rattle.osm_base.proofs.MapViews.{distinct_len}
use Rattle.osm_base.specs.RankLaws.{rank_total, rank_exact, rank_ties}
use Rattle.dataset.specs.Draft.{DraftValue}
use Rattle.dataset.proofs.draft.Draft.len.Goals as goal

pub returns : goal.returns
returns c = c.len.ensures.len ∙ distinct_len rank_total rank_exact rank_ties c.self.inside.puts.entries c.len.ensures.unique ∙ ap (λ (d : DraftValue). map.len d.puts) c.self.view_is
