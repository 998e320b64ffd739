use Rattle.std.proofs.Common.{take}
use Rattle.std.specs.HashMap.{get}
use Rattle.osm_base.specs.KeyEq.{eq}
use Rattle.osm_base.specs.declared.key.Key.{Key}
use Rattle.osm_table.specs.InOrder.{IsPlace}
use Rattle.osm_table.proofs.places.hashed.Given as goal

abbrev pub invariant-loop-i : goal.invariant-loop-i
invariant-loop-i l = (k : Key) → IsPlace (take l.i l.keys) k (get eq l.places k)
