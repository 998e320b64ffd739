use Rattle.std.proofs.Common.{◌≡◌, [], drop}
use Rattle.server_world.specs.Asked.{with_asked, with_each}
use Rattle.server_world.proofs.asked.list_asked.Given as goal

abbrev pub invariant-loop-change : goal.invariant-loop-change
invariant-loop-change l = with_each with_asked l.keys.items (drop l.change-index l.changes) ≡ with_each with_asked [] l.changes
