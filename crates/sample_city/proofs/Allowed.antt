-- What is told of the city may be told.
use Rattle.std.proofs.Common.{◌+◌, ◌-◌, ◌*◌, ◌≤◌, ℕ, pos, suc, zero, map, refl, arith}
use Rattle.std.specs.List.{AllByRecursion, range_with_len}
use Rattle.osm_base.specs.Content.{node}
use Rattle.osm_base.specs.declared.key.Kind.TheVariants as kind
use Rattle.osm_base.specs.declared.key.Key.{Key}
use Rattle.osm_base.specs.declared.members.Member.{Member}
use Rattle.osm_table.specs.Table.{IsPositive}
use Rattle.osm_table.specs.Told.{IsTold}
use Rattle.sample_city.specs.City.{as_told, junction, leg, numbered, route, street, ten_from}

nodes_positive : (a n : ℕ) → 1 ≤ a → a + n ≤ 10000000 → AllByRecursion (λ (r : Key). IsPositive r.id) (map node (map pos (range_with_len a n)))
nodes_positive a zero low high = tt
nodes_positive a (suc n) low high = ((low, omega arith), nodes_positive (a + 1) n (omega arith) (omega arith))

legs_positive : (a n : ℕ) → 1 ≤ a → a + n ≤ 10000000 → AllByRecursion (λ (r : Key). IsPositive r.id) (map (λ (m : Member). m.key) (map leg (map pos (range_with_len a n))))
legs_positive a zero low high = tt
legs_positive a (suc n) low high = ((low, omega arith), legs_positive (a + 1) n (omega arith) (omega arith))

pub junction_told : (k : ℕ) → 1 ≤ k → k ≤ 1000000 → IsTold (numbered kind.Node k) (as_told (junction k))
junction_told k low high = ((low, omega arith), (omega arith, omega arith), (refl, tt))

pub street_told : (j : ℕ) → 1 ≤ j → j ≤ 100000 → IsTold (numbered kind.Way j) (as_told (street j))
unfolding ten_from
street_told j low high = ((low, omega arith), (omega arith, omega arith), (refl, nodes_positive (9 * (j - 1) + 1) 10 (omega arith) (omega arith)))

pub route_told : (q : ℕ) → 1 ≤ q → q ≤ 10000 → IsTold (numbered kind.Relation q) (as_told (route q))
unfolding ten_from
route_told q low high = ((low, omega arith), (omega arith, omega arith), (refl, legs_positive (10 * (q - 1) + 1) 10 (omega arith) (omega arith)))
