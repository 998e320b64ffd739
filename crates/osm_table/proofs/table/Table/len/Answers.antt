use Rattle.std.proofs.Common.{ap, sym, ◌∙◌}
use Rattle.std.specs.FinMap as map
use Rattle.osm_table.specs.Table.{TableValue}
use Rattle.osm_table.specs.TableKept.{table_of}
use Rattle.osm_table.specs.Told.{ToldValue}
use Rattle.osm_table.proofs.TableTold.{told_number}
use Rattle.osm_table.proofs.table.Table.len.Goals as goal

pub returns-in-Told : goal.returns-in-Told
returns-in-Told c =
    c.len-in-Told.ensures.value
    ∙ ap (λ (m : ToldValue). map.len m.told) c.value.ensures
    ∙ told_number c.in-Told.told.told c.in-Told.next
    ∙ ap (λ (t : TableValue). map.len t.entries) (ap table_of (sym c.in-Told.is) ∙ c.self.view_is)
