-- The generated city.
--
-- For example a city of 10 streets has the nodes n1 to n91, the ways w1 to w10 along ten of them each, so that w1 `Street 1`
-- ends at n10, where w2 begins, and the route r1 over all ten streets.
use Rattle.std.specs.Prelude.{ℕ, ℤ, pos, negsuc, nat_le, ◌&&◌, if◌then◌else◌, option_map, ◌+◌, ◌-◌, ◌*◌, ◌/◌, ◌%◌, ◌++◌, List, [], ◌∷◌, Option, None, Some, codes, map, unwrap_or}
use Rattle.std.specs.Fmt.{decimal}
use Rattle.std.specs.List.{fold, range_with_len}
use Rattle.std.specs.FinMap as fin
use Rattle.std.proofs.Common.{refl}
use Rattle.osm_base.specs.Place.{place_at}
use Rattle.osm_base.specs.Tags.{Pair}
use Rattle.osm_base.specs.declared.coord.Coord.{Coord}
use Rattle.osm_base.specs.declared.key.Kind.{Kind}
use Rattle.osm_base.specs.declared.key.Kind.TheVariants as kind
use Rattle.osm_base.specs.declared.key.Key.{Key}
use Rattle.osm_base.specs.declared.members.Member.{Member}
use Rattle.osm_base.specs.declared.meta.Meta.{Meta}
use Rattle.osm_base.specs.declared.content.Content.{Content}
use Rattle.osm_base.specs.declared.content.Content.TheVariants.{Node, Way, Relation}
use Rattle.osm_table.specs.declared.told.Told.{Told}
use Rattle.osm_table.specs.declared.told.Told.TheVariants.{Live}
use Rattle.osm_table.specs.Told.{ToldValue, with_told}

-- the object of a kind with a number
abbrev pub numbered : Kind → ℕ → Key
numbered kind n = record { kind = kind; id = pos n }

-- ten ids in a row, from n on
unfoldable pub ten_from : ℕ → List ℤ
ten_from n = map pos (range_with_len n 10)

-- Nodes.

-- where the map's longitude and latitude are 0
abbrev pub origin : Coord
origin = record { lon = pos 0; lat = pos 0; on_map = refl }

-- the place of node k, in a grid of a thousand nodes a row, 0.001 degrees from each other
abbrev pub place_of : ℕ → Coord
place_of k = unwrap_or (place_at (pos ((k - 1) % 1000 * 10000)) (pos ((k - 1) / 1000 * 10000))) origin

abbrev pub junction : ℕ → Content
junction k = Node [] (place_of k)

-- Ways.

abbrev pub residential : List Pair
residential = (codes "highway", codes "residential") ∷ []

abbrev pub named : List ℕ → List Pair
named name = (codes "name", name) ∷ []

-- the street j goes along ten nodes, and ends at the first of the next street
abbrev pub street : ℕ → Content
street j = Way (residential ++ named (codes "Street " ++ decimal j)) (ten_from (9 * (j - 1) + 1))

-- Relations.

abbrev pub route_tags : List ℕ → List Pair
route_tags number = (codes "ref", number) ∷ (codes "type", codes "route") ∷ []

-- a way as a member without a role
abbrev pub leg : ℤ → Member
leg id = record { key = record { kind = kind.Way; id = id }; role = [] }

-- the route q leads over ten streets
abbrev pub route : ℕ → Content
route q = Relation (route_tags (decimal q)) (map leg (ten_from (10 * (q - 1) + 1)))

-- All of them.

-- the objects of a kind with the numbers from 1 to n
abbrev pub all_of : Kind → (ℕ → Content) → ℕ → List (Key × Content)
all_of kind content n = map (λ i. (numbered kind i, content i)) (range_with_len 1 n)

abbrev pub objects : ℕ → List (Key × Content)
objects streets = all_of kind.Node junction (9 * streets + 1) ++ (all_of kind.Way street streets ++ all_of kind.Relation route (streets / 10))

-- the user `city` made all on the first of January 2020
abbrev pub city_meta : Meta
city_meta = record { changeset = 1; time = Some (record { year = 2020; month = 1; day = 1; hour = 0; minute = 0; second = 0 }); uid = 1; user = codes "city" }

-- an object as it stands, in its first version
abbrev pub as_told : Content → Told
as_told content = Live 1 content city_meta

abbrev pub all_told : ToldValue → List (Key × Content) → ToldValue
all_told so_far objects = fold (λ told object. with_told told object.0 (as_told object.1)) so_far objects

-- What a city of so many streets tells.
abbrev pub city : ℕ → ToldValue
city streets = all_told (record { told = fin.empty; order = [] }) (objects streets)

-- By look-up.

-- how many objects of a kind a city has
abbrev pub how_many : ℕ → Kind → ℕ
how_many streets kind.Node = 9 * streets + 1
how_many streets kind.Way = streets
how_many streets kind.Relation = streets / 10

-- the object of a kind with a number
abbrev pub content_of : Kind → ℕ → Content
content_of kind.Node k = junction k
content_of kind.Way j = street j
content_of kind.Relation q = route q

-- the number that an id is, where it is from 1 to n
abbrev pub number_in : ℕ → ℤ → Option ℕ
number_in n (pos i) = if nat_le 1 i && nat_le i n then Some i else None
number_in n (negsuc i) = None

-- what a city of so many streets tells of a key
abbrev pub told_by : ℕ → Key → Option Told
told_by streets key = option_map (λ n. as_told (content_of key.kind n)) (number_in (how_many streets key.kind) key.id)
