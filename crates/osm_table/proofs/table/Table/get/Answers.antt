use Rattle.std.proofs.Common.{ap, sym, ◌∙◌}
use Rattle.std.specs.Option.{option_map}
use Rattle.osm_table.specs.Table.{TableValue, entry_of}
use Rattle.osm_table.specs.TableKept.{table_of}
use Rattle.osm_table.specs.Told.{ToldValue, told_at, entry_told}
use Rattle.osm_table.proofs.TableTold.{table_told_at}
use Rattle.osm_table.proofs.table.Table.get.Goals as goal

pub returns-in-Told : goal.returns-in-Told
returns-in-Told c =
    c.get-in-Told.ensures.value
    ∙ ap (λ (m : ToldValue). option_map entry_told (told_at m c.args.key)) c.value.ensures
    ∙ sym (table_told_at c.in-Told.told.told c.in-Told.next c.args.key)
    ∙ ap (λ (t : TableValue). entry_of t c.args.key) (ap table_of (sym c.in-Told.is) ∙ c.self.view_is)
