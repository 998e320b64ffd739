use Rattle.std.proofs.Common.{ap, ◌∙◌}
use Rattle.osm_table.specs.Table.{TableValue, entry_of, without_entry}
use Rattle.osm_base.proofs.MapViews.{get_view, removed}
use Rattle.osm_base.specs.RankLaws.{rank_total, rank_exact, rank_ties}
use Rattle.osm_table.proofs.own_table.OwnTable.remove.Goals as goal

pub returns-clause-value : goal.returns-clause-value
returns-clause-value c = c.remove.ensures.value ∙ get_view rank_total rank_exact rank_ties c.self.inside.entries c.args.key ∙ ap (λ (t : TableValue). entry_of t c.args.key) c.self.view_is

pub returns-clause-removed : goal.returns-clause-removed
returns-clause-removed c =
    (λ i. record { entries = removed rank_total rank_exact rank_ties c.self.inside.entries c.remove.new.self c.args.key c.remove.ensures.removed i; next = c.self.inside.next })
    ∙ ap (λ (t : TableValue). without_entry t c.args.key) c.self.view_is
