-- The objects of the bases' world, put one after the other.
use Rattle.std.specs.Prelude.{Bool, not, ◌&&◌, ◌||◌, is_some, if◌then◌else◌, Option, Some, None, List, [], ◌∷◌}
use Rattle.std.specs.FinMap as fin
use Rattle.osm_base.specs.declared.key.Kind.{Kind}
use Rattle.osm_base.specs.declared.key.Key.{Key}
use Rattle.osm_table.specs.declared.entry.Entry.{Entry}
use Rattle.osm_table.specs.Table.{TableValue, entry_of}
use Rattle.upload_order.specs.Kinds.{at_key, held_list}
use Rattle.upload_order.specs.Rename.{is_positive}
use Rattle.upload_order.specs.World.{WorldEntry, is_known}
use Rattle.server_world.specs.Codes.{Objects}
use Rattle.server_world.specs.Bases.{empty_content, of_entry}

-- what stands of an entry by its base
abbrev pub based : Option Entry → Option WorldEntry
based o = of_entry None o

abbrev pub with_some : Objects → Key → Option WorldEntry → Objects
with_some m k None = m
with_some m k (Some e) = fin.insert m k e

abbrev pub with_base : TableValue → Objects → Key → Objects
with_base t m k = with_some m k (based (entry_of t k))

abbrev pub with_bases : TableValue → Objects → List Key → Objects
with_bases t m [] = m
with_bases t m (k ∷ ks) = with_bases t (with_base t m k) ks

abbrev pub empty_object : Kind → WorldEntry
empty_object kind = record { version = 1; content = Some (empty_content kind) }

-- a positive key that isn't Known
abbrev pub is_open : TableValue → Key → Bool
is_open t k = is_positive k.id && not (at_key t is_known k)

abbrev pub with_mention : TableValue → Objects → Key → Objects
with_mention t m k = if not (is_open t k) || is_some (fin.get m k) then m else fin.insert m k (empty_object k.kind)

abbrev pub with_mentions : TableValue → Objects → List Key → Objects
with_mentions t m [] = m
with_mentions t m (k ∷ ks) = with_mentions t (with_mention t m k) ks

abbrev pub with_all_mentions : TableValue → Objects → List Key → Objects
with_all_mentions t m [] = m
with_all_mentions t m (k ∷ ks) = with_all_mentions t (with_mentions t m (held_list t k)) ks
