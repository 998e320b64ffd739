use Rattle.std.proofs.Common.{◌≡◌, ◌∙◌, ap, sym, subst, IfOk, List}
use Rattle.std.specs.FinMap as map
use Rattle.osm_base.specs.declared.key.Key.{Key}
use Rattle.osm_table.specs.Table.{TableValue, keys_by_rank}
use Rattle.osm_table.specs.TableKept.{table_of}
use Rattle.osm_table.specs.Told.{ToldValue}
use Rattle.osm_table.proofs.TableTold.{told_keys}
use Rattle.osm_table.proofs.table.Table.ordered.Goals as goal

pub returns-in-Told : goal.returns-in-Told
returns-in-Told c =
    subst (λ (ks : List Key). IfOk c.ordered-in-Told.result (λ (keys : List Key). keys ≡ ks))
    (
    ap (λ (m : ToldValue). map.keys m.told) c.value.ensures
    ∙ told_keys c.in-Told.told.told c.in-Told.next
    ∙ ap (λ (t : TableValue). keys_by_rank t) (ap table_of (sym c.in-Told.is) ∙ c.self.view_is)
    )
    c.ordered-in-Told.ensures
