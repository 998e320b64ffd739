use Rattle.std.proofs.Common.{◌≡◌, ◌∙◌, List, Some, sym, ap, subst}
use Rattle.std.specs.Map.{lookup}
use Rattle.std.specs.Prelude.{slice_get, IfSome}
use Rattle.osm_base.specs.KeyEq.{eq}
use Rattle.osm_base.specs.RisingKeys.{is_in}
use Rattle.osm_base.specs.declared.key.Key.{Key}
use Rattle.osm_table.specs.declared.entry.Entry.{Entry}
use Rattle.osm_table.proofs.InPlace.{kept_keys}
use Rattle.osm_table.proofs.OrderLaws.{if_none, found_nowhere}
use Rattle.osm_table.proofs.PlaceLaws.{if_place, if_no_place}
use Rattle.osm_table.proofs.keyed_entries.KeyedEntries.place_near.Goals as goal

pub returns-clause-some : goal.returns-clause-some
returns-clause-some c =
    subst (λ (ks : List Key). IfSome c.place_near.result (λ place. slice_get ks place ≡ Some c.args.key))
    (c.deref.ensures.value ∙ kept_keys c.self.inside.keys c.self.inside.entries c.self.invariant.1 c.self.view_is)
    (if_place c.deref.result.now c.args.key c.place_near.result c.place_near.ensures)

pub returns-clause-none : goal.returns-clause-none
returns-clause-none c =
    if_none c.place_near.result (if_no_place c.deref.result.now c.args.key c.place_near.result c.place_near.ensures)
    (λ apart. ap (λ (es : List (Key × Entry)). lookup (eq c.args.key) es) (sym c.self.view_is)
    ∙ found_nowhere c.self.inside.keys.items c.self.inside.entries.items c.args.key (ap (λ (ks : List Key). is_in c.args.key ks) (sym c.deref.ensures.value) ∙ apart))
