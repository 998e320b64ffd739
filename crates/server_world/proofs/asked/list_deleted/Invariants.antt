use Rattle.std.proofs.Common.{◌≡◌, [], drop}
use Rattle.server_world.specs.Asked.{with_deleted, with_each}
use Rattle.server_world.proofs.asked.list_deleted.Given as goal

abbrev pub invariant-loop-change : goal.invariant-loop-change
invariant-loop-change l = with_each with_deleted l.keys.items (drop l.change-index l.changes) ≡ with_each with_deleted [] l.changes
