-- Places on the map, in units of 10^-7 degree.
use Rattle.std.specs.Prelude.{◌≡◌, ℤ, ◌+ℤ◌, Bool, true, false, Option, Some, None}
use Rattle.std.proofs.Common.{refl}
use Rattle.osm_base.specs.OnMap.{is_on_map}
use Rattle.osm_base.specs.declared.coord.Coord.{Coord}

-- a place, where the test of its longitude and latitude answers so
abbrev pub place_if : (lon lat : ℤ) (inside : Bool) → is_on_map lon lat ≡ inside → Option Coord
place_if lon lat true on_map = Some (record { lon = lon; lat = lat; on_map = on_map })
place_if lon lat false off_map = None

-- the place at a longitude and a latitude; none where one is out of range
unfoldable pub place_at : ℤ → ℤ → Option Coord
place_at lon lat = place_if lon lat (is_on_map lon lat) refl

-- a place moved by dx to the east and dy to the north; none where it comes out of range
abbrev pub shifted : Coord → ℤ → ℤ → Option Coord
shifted at dx dy = place_at (at.lon +ℤ dx) (at.lat +ℤ dy)
