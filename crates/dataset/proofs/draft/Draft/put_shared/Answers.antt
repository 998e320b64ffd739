use Rattle.std.proofs.Common.{ap, ◌∙◌}
use Rattle.std.specs.FinMap as map
use Rattle.osm_base.specs.RankLaws.{rank_total, rank_exact, rank_ties}
use Rattle.dataset.specs.Draft.{DraftValue}
use Rattle.osm_base.proofs.MapViews.{inserted}
use Rattle.dataset.proofs.draft.Draft.put_shared.Goals as goal

pub returns-clause-ok : goal.returns-clause-ok
returns-clause-ok c =
    (λ i. record { puts = inserted rank_total rank_exact rank_ties c.self.inside.puts.entries c.insert.new.self.entries c.args.key c.args.after c.in_ok-insert.ensures.updates.0 i; next = c.self.inside.next })
    ∙ ap (λ (d : DraftValue). record { puts = map.insert d.puts c.args.key c.args.after; next = d.next }) c.self.view_is
