-- The users of each key, in lists.
use Rattle.std.specs.Prelude.{Bool, List, []}
use Rattle.std.specs.Map.{lookup}
use Rattle.std.specs.Option.{unwrap_or}
use Rattle.osm_base.specs.declared.key.Key.{Key}
use Rattle.osm_base.specs.KeyEq.{eq}
use Rattle.osm_base.specs.RisingKeys.{is_in}
use Rattle.ref_index.specs.declared.pair.Pair.{Pair}

-- the entries of a hashed map from keys to their users
abbrev pub Lists : Type 0
Lists = List (Key × List Key)

-- the users of one key: none where it has no list
abbrev pub users_of : Lists → Key → List Key
users_of lists of = unwrap_or (lookup (eq of) lists) []

-- whether the pair's user is among those of its key
abbrev pub is_listed : Lists → Pair → Bool
is_listed lists p = is_in p.user (users_of lists p.of)
