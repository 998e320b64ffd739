use Rattle.std.proofs.Common.{◌∙◌, List, length, sym, ap, subst}
use Rattle.osm_base.specs.declared.key.Key.{Key}
use Rattle.osm_table.specs.InOrder.{AreInPlace}
use Rattle.osm_table.specs.declared.entry.Entry.{Entry}
use Rattle.osm_table.proofs.keyed_entries.KeyedEntries.reserve.Goals as goal

pub invariant_of-self-2 : goal.invariant_of-self-2
invariant_of-self-2 c = (
  subst (λ (ks : List Key). AreInPlace ks c.reserve-3.new.self) (sym c.in_ok-reserve.ensures.items) (c.reserve-3.ensures c.self.inside.keys.items c.self.invariant.0),
  ap (λ (ks : List Key). length ks) c.in_ok-reserve.ensures.items ∙ c.self.invariant.1 ∙ ap (λ (es : List Entry). length es) (sym c.in_ok-reserve-2.ensures.items),
)
