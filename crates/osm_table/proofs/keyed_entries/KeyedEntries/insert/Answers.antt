use Rattle.std.proofs.Common.{List, sym, subst}
use Rattle.std.specs.List.{IsDistinct}
use Rattle.osm_base.specs.KeyEq.{eq}
use Rattle.osm_base.specs.declared.key.Key.{Key}
use Rattle.osm_table.proofs.InPlace.{in_place_distinct}
use Rattle.osm_table.proofs.OrderLaws.{keys_zip, when_ok}
use Rattle.osm_table.proofs.keyed_entries.KeyedEntries.insert.Goals as goal

pub returns-clause-unique : goal.returns-clause-unique
returns-clause-unique c =
    let keys = c.insert_in.new.keys.items in
    when_ok c.insert_in.result
    (subst (λ (ks : List Key). IsDistinct eq ks)
    (sym (keys_zip keys c.insert_in.new.entries.items c.insert_in.ensures.len))
    (in_place_distinct keys c.insert_in.new.places c.insert_in.ensures.places))
