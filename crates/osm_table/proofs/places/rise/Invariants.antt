use Rattle.std.proofs.Common.{◌≤◌, take}
use Rattle.std.specs.Prelude.{T}
use Rattle.osm_base.specs.RisingKeys.{rises}
use Rattle.osm_table.proofs.places.rise.Given as goal

abbrev pub invariant-loop-i : goal.invariant-loop-i
invariant-loop-i l = (1 ≤ l.i) × T (rises (take l.i l.keys))
