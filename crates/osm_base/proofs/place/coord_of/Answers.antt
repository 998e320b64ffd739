use Rattle.std.proofs.Common.{arith}
use Rattle.std.proofs.lemmas.Bool.Decides.{nat_tests}
use Rattle.std.proofs.lemmas.Int.{ints}
use Rattle.osm_base.proofs.PlaceLaws.{place_is}
use Rattle.osm_base.proofs.place.coord_of.Goals as goal

pub returns-then-is_lat : goal.returns-then-is_lat
returns-then-is_lat c = place_is c.args.lon c.args.lat _ (grind (arith, nat_tests, ints), grind (arith, nat_tests, ints))
