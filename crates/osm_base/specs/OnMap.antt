-- Which longitudes and latitudes are on the map, in units of 10^-7 degree.
use Rattle.std.specs.Prelude.{ℤ, ◌&&◌, Bool, nat_le, unsigned_abs}

-- a longitude: from -180 to 180 degrees
abbrev pub is_longitude : ℤ → Bool
is_longitude lon = nat_le (unsigned_abs lon) 1800000000

-- a latitude: from -90 to 90 degrees
abbrev pub is_latitude : ℤ → Bool
is_latitude lat = nat_le (unsigned_abs lat) 900000000

abbrev pub is_on_map : ℤ → ℤ → Bool
is_on_map lon lat = is_longitude lon && is_latitude lat
