-- The first node at each place.
use Rattle.std.specs.Prelude.{◌≡◌, ◌&&◌, Bool, List, Option, Some}
use Rattle.std.specs.List.{find}
use Rattle.std.specs.Map.{lookup}
use Rattle.std.specs.Ordering.{int_eq}
use Rattle.osm_base.specs.declared.key.Key.{Key}
use Rattle.osm_base.specs.declared.coord.Coord.{Coord}
use Rattle.osm_table.specs.Table.{TableValue}
use Rattle.tool_api.specs.Findings.{place_at, same_place}
use Rattle.map_checks.specs.declared.places.Place.{Place}

-- what `==` answers at places as they are hashed
abbrev pub eq : Place → Place → Bool
eq a b = int_eq a.lon b.lon && int_eq a.lat b.lat

-- a place as it is hashed
abbrev pub hashed : Coord → Place
hashed at = record { lon = at.lon; lat = at.lat }

-- what a map has at a place
abbrev pub noted_at : List (Place × Key) → Coord → Option Key
noted_at entries at = lookup (eq (hashed at)) entries

-- the first of the keys whose node is at a place
abbrev pub first_at : TableValue → List Key → Coord → Option Key
first_at t keys at = find (λ k. same_place (place_at t k) (Some at)) keys

-- A map has the first of the keys at each place.
abbrev pub HasFirst : TableValue → List Key → List (Place × Key) → Type 0
HasFirst t keys entries = (at : Coord) → noted_at entries at ≡ first_at t keys at
