use Rattle.std.proofs.Common.{◌≡◌, ◌∙◌, ap}
use Rattle.std.specs.FinMap as fin
use Rattle.osm_table.specs.Table.{TableValue}
use Rattle.dataset.specs.Index.{count_kept}
use Rattle.dataset.proofs.Exactness.{empty_exact}
use Rattle.dataset.proofs.dataset.become_empty.Goals as goal

pub returns-clause-table : goal.returns-clause-table
returns-clause-table c = c.set_both.ensures.table ∙ c.own.ensures ∙ c.set_next.ensures ∙ ap (λ (t : TableValue). record { entries = t.entries; next = c.args.next }) c.new-nothing.ensures

pub returns-clause-exact : goal.returns-clause-exact
returns-clause-exact c =
    let none : c.own.result ≡ record { entries = fin.empty; next = c.args.next } = c.own.ensures ∙ c.set_next.ensures ∙ ap (λ (t : TableValue). record { entries = t.entries; next = c.args.next }) c.new-nothing.ensures in
    rw (c.set_both.ensures.table, c.set_both.ensures.index) (empty_exact c.own.result (count_kept c.new-nobody.result) c.args.next none c.new-nobody.ensures)
