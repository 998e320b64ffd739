use Rattle.std.proofs.Common.{◌-◌}
use Rattle.server_world.specs.Starts.{IsStartOf}
use Rattle.server_world.proofs.objects.Objects.start.Given as goal

abbrev pub invariant-loop-id : goal.invariant-loop-id
invariant-loop-id l = IsStartOf l.self l.kind l.id

abbrev pub decreases-loop-id : goal.decreases-loop-id
decreases-loop-id l = 1000000000000000000 - l.id
