use Rattle.std.proofs.Common.{ap, ◌∙◌, List}
use Rattle.std.specs.FinMap as map
use Rattle.osm_base.specs.declared.key.Key.{Key}
use Rattle.osm_table.specs.declared.entry.Entry.{Entry}
use Rattle.osm_table.specs.Told.{ToldValue, table_told}
use Rattle.osm_table.proofs.TableTold.{table_kept}
use Rattle.osm_table.proofs.told_map.ToldMap.to_table.Goals as goal

pub returns : goal.returns
returns c =
    c.with_entries.ensures
    ∙ ap (λ (es : List (Key × Entry)). record { entries = map.from_entries es; next = c.args.next }) c.in_ok-copy.ensures
    ∙ table_kept c.self.inside.entries c.args.next c.self.invariant.1
    ∙ ap (λ (m : ToldValue). table_told m.told c.args.next) c.self.view_is
