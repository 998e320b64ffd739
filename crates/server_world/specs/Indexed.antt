-- Who refers to what in a world.
use Rattle.std.specs.Prelude.{◌≡◌, Option, List, []}
use Rattle.std.specs.Option.{option_map_or}
use Rattle.std.specs.FinMap as fin
use Rattle.osm_base.specs.Content.{refs_of}
use Rattle.osm_base.specs.declared.key.Key.{Key}
use Rattle.ref_index.specs.declared.pair.Pair.{Pair}
use Rattle.ref_index.specs.Bag.{Bag, count}
use Rattle.dataset.specs.Exact.{pairs_with, times_key}
use Rattle.upload_order.specs.World.{WorldEntry}
use Rattle.upload_order.specs.Pieces.{content_in}
use Rattle.server_world.specs.Codes.{Objects}

-- to what the object refers, in order, each as often as it stands
abbrev pub refs_in : Option WorldEntry → List Key
refs_in o = option_map_or refs_of (content_in o) []

-- its references, as pairs
abbrev pub pairs_of : Key → Option WorldEntry → List Pair
pairs_of user o = pairs_with user (refs_in o)

-- The bag holds each reference of each object as often as it stands.
abbrev pub IsIndexed : Objects → Bag → Type 0
IsIndexed m bag = (of user : Key) → count bag (record { of = of; user = user }) ≡ times_key of (refs_in (fin.get m user))
