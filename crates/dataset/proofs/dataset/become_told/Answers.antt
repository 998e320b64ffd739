use Rattle.std.proofs.Common.{◌∙◌, sym, ap, subst}
use Rattle.osm_table.specs.Table.{TableValue}
use Rattle.osm_table.specs.Told.{ToldValue, table_told}
use Rattle.dataset.specs.Exact.{IsExact}
use Rattle.dataset.specs.Index.{count_kept}
use Rattle.dataset.proofs.dataset.become_told.Goals as goal

pub returns-in-Ok-clause-ok : goal.returns-in-Ok-clause-ok
returns-in-Ok-clause-ok c = c.set_both.ensures.table ∙ c.told-in-Ok.ensures ∙ ap (λ (m : ToldValue). table_told m.told c.args.next) c.in-Ok.ensures

pub returns-in-Ok-clause-exact : goal.returns-in-Ok-clause-exact
returns-in-Ok-clause-exact c =
    rw (c.set_both.ensures.table, c.set_both.ensures.index)
    (subst (λ (t : TableValue). IsExact t (count_kept c.in_ok-users.users)) (sym (c.told-in-Ok.ensures ∙ ap (λ (m : ToldValue). table_told m.told c.args.next) (c.in-Ok.ensures ∙ sym c.in_ok-copy.ensures))) (c.in_ok-users.ensures c.args.next))
