use Rattle.std.proofs.Common.{◌≡◌, drop}
use Rattle.server_world.specs.Asked.{with_each, with_users}
use Rattle.server_world.proofs.asked.push_deleted.Given as goal

abbrev pub invariant-loop-key : goal.invariant-loop-key
invariant-loop-key l = with_each (with_users l.ds) l.keys.items (drop l.key-index l.deleted) ≡ with_each (with_users l.ds) l.initial.keys.items l.deleted
