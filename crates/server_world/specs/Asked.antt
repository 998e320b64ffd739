-- The part of a server of the bases that changes meet.
use Rattle.std.specs.Prelude.{if◌then◌else◌, List, [], ◌∷◌, ◌++◌}
use Rattle.std.specs.FinMap as fin
use Rattle.osm_base.specs.Content.{refs_of}
use Rattle.osm_base.specs.Order.{ranked}
use Rattle.osm_base.specs.declared.key.Key.{Key}
use Rattle.osm_table.specs.Table.{TableValue, users}
use Rattle.upload_order.specs.declared.change.Change.{Change}
use Rattle.upload_order.specs.declared.change.Change.TheVariants.{Create, Modify, Delete}
use Rattle.upload_order.specs.Kinds.{at_key}
use Rattle.upload_order.specs.Part.{changed_keys}
use Rattle.upload_order.specs.World.{World, is_known}
use Rattle.server_world.specs.Putting.{with_bases, with_all_mentions}

-- a list, and behind it what a change gives a content, and to what that refers
abbrev pub with_asked : List Key → Change → List Key
with_asked list (Create k c) = list ++ refs_of c
with_asked list (Modify k v c) = (list ++ k ∷ []) ++ refs_of c
with_asked list (Delete k v) = list

-- a list, and behind it what a change deletes
abbrev pub with_deleted : List Key → Change → List Key
with_deleted list (Create k c) = list
with_deleted list (Modify k v c) = list
with_deleted list (Delete k v) = list ++ k ∷ []

-- a list with what each of the elements puts behind it
abbrev pub with_each : {A : Type 0} → (List Key → A → List Key) → List Key → List A → List Key
with_each put list [] = list
with_each put list (x ∷ xs) = with_each put (put list x) xs

-- a list, and behind it a key and its users
abbrev pub with_users : TableValue → List Key → Key → List Key
with_users t list k = (list ++ k ∷ []) ++ users t k

-- a list, and behind it a key, with its users if it isn't Known
abbrev pub with_unknown : TableValue → List Key → Key → List Key
with_unknown t list k = if at_key t is_known k then list ++ k ∷ [] else (list ++ k ∷ []) ++ users t k

-- the keys of what changes meet at the server of the bases: of all that is changed; of what gets a content, and to what that
-- refers, with the users of each that isn't Known; of what is deleted, with its users
abbrev pub keys_met : TableValue → List Change → List Key
keys_met t cs =
    ranked (
    with_each (with_users t)
    (with_each (with_unknown t) (changed_keys t) (ranked (with_each with_asked [] cs)))
    (ranked (with_each with_deleted [] cs))
    )

-- the part of the server of the bases that has these keys, and all to which their bases refer
abbrev pub of_those : TableValue → List Key → World
of_those t ks = record { entries = with_all_mentions t (with_bases t fin.empty ks) ks; names = [] }
