-- The place at two numbers.
use Rattle.std.proofs.Common.{◌≡◌, ℤ, Bool, true, false, Some, None, refl, sym, ◌∙◌, ap}
use Rattle.std.proofs.Props.{props}
use Rattle.std.proofs.lemmas.Bool.{and_right, and_left}
use mathlib.Core.HLevel.{is_prop→PathP}
use Rattle.osm_base.specs.OnMap.{is_longitude, is_latitude, is_on_map}
use Rattle.osm_base.specs.Place.{place_if, place_at}
use Rattle.osm_base.specs.declared.coord.Coord.{Coord}

-- Places with one longitude and one latitude are one.
pub coord_as : (a b : Coord) → (a.lon ≡ b.lon) × (a.lat ≡ b.lat) → a ≡ b
coord_as a b h i = record { lon = h.0 i; lat = h.1 i; on_map = is_prop→PathP (λ j. is_on_map (h.0 j) (h.1 j) ≡ true) (λ j. hlevel props) a.on_map b.on_map i }

place_where : (lon lat : ℤ) (b : Bool) (e : is_on_map lon lat ≡ b) (at : Coord) → (at.lon ≡ lon) × (at.lat ≡ lat) → Some at ≡ place_if lon lat b e
place_where lon lat true e at h = ap Some (coord_as at (record { lon = lon; lat = lat; on_map = e }) h)
place_where lon lat false e at h =
    let both : is_on_map at.lon at.lat ≡ is_on_map lon lat = λ i. is_on_map (h.0 i) (h.1 i) in
    let no : true ≡ false = sym at.on_map ∙ both ∙ e in
    absurd cc

-- a place with this longitude and this latitude is the one there
pub place_is : (lon lat : ℤ) (at : Coord) → (at.lon ≡ lon) × (at.lat ≡ lat) → Some at ≡ place_at lon lat
unfolding place_at
place_is lon lat at h = place_where lon lat (is_on_map lon lat) refl at h

nowhere : (lon lat : ℤ) (b : Bool) (e : is_on_map lon lat ≡ b) → b ≡ false → None ≡ place_if lon lat b e
nowhere lon lat true e h = absurd cc
nowhere lon lat false e h = refl

-- where the longitude is off the map there is none,
pub no_longitude : (lon lat : ℤ) → is_longitude lon ≡ false → None ≡ place_at lon lat
unfolding place_at
no_longitude lon lat off = nowhere lon lat (is_on_map lon lat) refl (and_left (is_longitude lon) (is_latitude lat) off)

-- and where the latitude is
pub no_latitude : (lon lat : ℤ) → is_latitude lat ≡ false → None ≡ place_at lon lat
unfolding place_at
no_latitude lon lat off = nowhere lon lat (is_on_map lon lat) refl (and_right (is_longitude lon) (is_latitude lat) off)
