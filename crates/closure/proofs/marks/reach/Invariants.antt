use Rattle.std.proofs.Common.{◌-◌, ◌^◌}
use Rattle.osm_base.specs.Rank.{is_key}
use Rattle.osm_base.proofs.RisingKeys.{key_itself, one_key}
use Rattle.closure.proofs.Walk.{Walks}
use Rattle.closure.proofs.marks.reach.Given as goal

abbrev pub invariant-loop-done : goal.invariant-loop-done
invariant-loop-done g l = Walks is_key key_itself one_key (g.L.Links.next l.links) l.starts l.marks l.done

abbrev pub decreases-loop-done : goal.decreases-loop-done
decreases-loop-done g l = 2 ^ 64 - l.done
