-- The keys of one list of users.
use Rattle.std.specs.Prelude.{List, [], ◌∷◌}
use Rattle.osm_base.specs.declared.key.Key.{Key}
use Rattle.ref_index.specs.declared.users.Items.{Items}
use Rattle.ref_index.specs.declared.users.Items.TheVariants.{Nobody, One, Two, List as Keys}

abbrev pub listed : Items → List Key
listed Nobody = []
listed (One key) = key ∷ []
listed (Two keys) = keys.value
listed (Keys keys) = keys.value.items
