-- Keys as they were found by rank.
use Rattle.std.specs.Prelude.{List}
use Rattle.osm_base.specs.declared.key.Key.{Key}
use Rattle.osm_table.specs.declared.ordered.Found.{Found}
use Rattle.osm_table.specs.declared.ordered.Found.TheVariants.{Standing, Sorted}

abbrev pub keys_found : Found → List Key
keys_found (Standing keys) = keys.now
keys_found (Sorted keys) = keys
