use Rattle.std.proofs.Common.{sym, ap, ◌∙◌, ◌≡◌, List, subst, IsSome, None, true, false}
use Rattle.std.specs.Map.{lookup}
use Rattle.osm_base.specs.KeyEq.{eq}
use Rattle.osm_base.specs.declared.key.Key.{Key}
use Rattle.osm_table.specs.declared.entry.Entry.{Entry}
use Rattle.osm_table.specs.Table.{TableValue, entry_of, with_entry}
use Rattle.osm_base.proofs.MapViews.{get_view, inserted}
use Rattle.osm_base.specs.RankLaws.{rank_total, rank_exact, rank_ties}
use Rattle.osm_table.proofs.OrderLaws.{found_put}
use Rattle.osm_table.proofs.own_table.OwnTable.set.Goals as goal

pub returns-clause-ok : goal.returns-clause-ok
returns-clause-ok c =
    (λ i. record {
      entries = inserted rank_total rank_exact rank_ties c.self.inside.entries c.insert.new.self c.args.key c.args.entry
          (λ q. ap (λ (es : List (Key × Entry)). lookup (eq q) es) c.in_ok-insert.ensures.ok ∙ found_put c.self.inside.entries c.args.key c.args.entry q) i;
      next = c.self.inside.next;
    })
    ∙ ap (λ (t : TableValue). with_entry t c.args.key c.args.entry) c.self.view_is

pub returns-in_err-insert-clause-present : goal.returns-in_err-insert-clause-present
returns-in_err-insert-clause-present c some =
    let none : entry_of c.args.self.now c.args.key ≡ None =
    sym (sym c.in_err-insert.ensures.absent ∙ get_view rank_total rank_exact rank_ties c.self.inside.entries c.args.key ∙ ap (λ (t : TableValue). entry_of t c.args.key) c.self.view_is) in
    let h : false ≡ true = subst IsSome none some in
    cc
