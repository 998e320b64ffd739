-- Who refers to what among objects that are told of, in lists beside the told map.
use Rattle.std.specs.Prelude.{◌≡◌, Bool, if◌then◌else◌, nat_lt, List, length}
use Rattle.std.specs.List.{zip}
use Rattle.std.specs.Option.{option_map}
use Rattle.osm_base.specs.RisingKeys.{is_in}
use Rattle.osm_base.specs.declared.key.Key.{Key}
use Rattle.osm_table.specs.Told.{ToldValue, entry_told, told_at}
use Rattle.ref_index.specs.declared.pair.Pair.{Pair}
use Rattle.ref_index.specs.Bag.{Bag, count}
use Rattle.ref_index.specs.Users.{is_listed}
use Rattle.dataset.specs.Exact.{refs_at}

-- what an object refers to, where no more is known than what is told
abbrev pub refs_told : ToldValue → Key → List Key
refs_told m user = refs_at (option_map entry_told (told_at m user))

-- whether a pair is kept: a told key has its users in the list at its place, and the pairs of any other key are among the others
abbrev pub is_kept : ToldValue → List (List Key) → Bag → Pair → Bool
is_kept m users others p = if is_in p.of m.order then is_listed (zip m.order users) p else nat_lt 0 (count others p)

-- Lists beside a told map: one for each of its keys, and a pair is kept exactly where its user refers to its key.
pub record AreBeside (m : ToldValue) (users : List (List Key)) (others : Bag) : Type 0 where
  pub places : length users ≡ length m.order
  pub exact : (p : Pair) → is_kept m users others p ≡ is_in p.of (refs_told m p.user)
