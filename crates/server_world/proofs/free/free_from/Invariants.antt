use Rattle.std.proofs.Common.{◌-◌}
use Rattle.server_world.specs.Free.{IsStart}
use Rattle.server_world.proofs.free.free_from.Given as goal

abbrev pub invariant-loop-id : goal.invariant-loop-id
invariant-loop-id l = IsStart l.world l.ds l.kind l.id

abbrev pub decreases-loop-id : goal.decreases-loop-id
decreases-loop-id l = 1000000000000000000 - l.id
