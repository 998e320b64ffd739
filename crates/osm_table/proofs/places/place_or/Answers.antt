use Rattle.std.proofs.Common.{arith}
use Rattle.osm_table.proofs.places.place_or.Goals as goal

pub returns-in-Ok-clause-put : goal.returns-in-Ok-clause-put
returns-in-Ok-clause-put c q = grind (arith, (c.in-Ok.ensures.update.0 c.or_insert.result.now).0 q)
