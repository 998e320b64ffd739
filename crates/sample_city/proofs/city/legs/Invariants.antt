use Rattle.std.proofs.Common.{◌≡◌, ◌++◌, drop, map}
use Rattle.sample_city.specs.City.{leg}
use Rattle.sample_city.proofs.city.legs.Given as goal

abbrev pub invariant-loop-id : goal.invariant-loop-id
invariant-loop-id l = l.members.items ++ map leg (drop l.id-index l.ways) ≡ map leg l.ways
