-- Keys that pass a test, as they are listed one after the other, and who can vouch for what is sent.
use Rattle.std.specs.Prelude.{Bool, if◌then◌else◌, List, [], ◌∷◌, ◌++◌}
use Rattle.osm_base.specs.Order.{ranked}
use Rattle.osm_base.specs.declared.key.Key.{Key}
use Rattle.osm_table.specs.Table.{TableValue, entry_of, is_incomplete, users}
use Rattle.upload_order.specs.Kinds.{at_key}
use Rattle.upload_order.specs.Refused.{refs_sent}

-- a list, and behind it those of the keys that pass a test
abbrev pub with_marked : (Key → Bool) → List Key → List Key → List Key
with_marked test list [] = list
with_marked test list (k ∷ ks) = with_marked test (if test k then list ++ k ∷ [] else list) ks

-- a list, and behind it the Incomplete keys to which what is sent of the keys refers
abbrev pub with_unknown : TableValue → List Key → List Key → List Key
with_unknown t list [] = list
with_unknown t list (k ∷ ks) = with_unknown t (with_marked (at_key t is_incomplete) list (refs_sent (entry_of t k))) ks

-- a list, and behind it the users of the keys
abbrev pub with_users : TableValue → List Key → List Key → List Key
with_users t list [] = list
with_users t list (k ∷ ks) = with_users t (list ++ users t k) ks

-- the keys and the users of each Incomplete key to which what is sent of them refers, by rank
abbrev pub vouchers : TableValue → List Key → List Key
vouchers t ks = ranked (with_users t ks (ranked (with_unknown t [] ks)))
