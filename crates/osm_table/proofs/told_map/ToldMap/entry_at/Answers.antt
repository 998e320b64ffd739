use Rattle.std.proofs.Common.{◌∙◌, sym, ap}
use Rattle.std.specs.Option.{option_map}
use Rattle.osm_table.specs.Told.{ToldValue, told_at, told_of}
use Rattle.osm_table.proofs.ToldLaws.{told_kept_at}
use Rattle.osm_table.proofs.told_map.ToldMap.entry_at.Goals as goal

pub returns-clause-told : goal.returns-clause-told
returns-clause-told c =
    ap (λ (m : ToldValue). told_at m c.entry_at.result.0) (sym c.self.view_is)
    ∙ told_kept_at c.self.inside.entries c.entry_at.result.0 ∙ ap (option_map told_of) c.entry_at.ensures.entry

pub returns-clause-entry : goal.returns-clause-entry
returns-clause-entry c = c.self.invariant.1 c.entry_at.result.0 c.entry_at.result.1.now c.entry_at.ensures.entry
