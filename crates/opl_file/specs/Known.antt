-- What is kept to find a key among those of a file.
use Rattle.std.specs.Prelude.{◌≡◌, ◌||◌, T, Bool, List}
use Rattle.std.specs.HashSet.{contains}
use Rattle.std.specs.List.{list_any}
use Rattle.osm_base.specs.KeyEq.{eq}
use Rattle.osm_base.specs.RisingKeys.{rises}
use Rattle.osm_base.specs.declared.key.Key.{Key}
use Rattle.opl_file.specs.declared.known.Known.{Known}
use Rattle.opl_file.specs.declared.known.Known.TheVariants.{Rising, Hashed}

-- whether k was found before, or is this key
abbrev pub finds : Key → Bool → Key → Bool
finds k found key = found || eq k key

-- found are just the keys
abbrev pub Finds : (Key → Bool) → List Key → Type 0
Finds found keys = (k : Key) → found k ≡ list_any (eq k) keys

-- the keys strictly rise by rank, or are those of the set
abbrev pub Knows : Known → List Key → Type 0
Knows Rising keys = T (rises keys)
Knows (Hashed set) keys = Finds (contains eq set) keys
