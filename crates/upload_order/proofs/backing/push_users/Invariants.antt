use Rattle.std.proofs.Common.{◌≡◌, drop}
use Rattle.upload_order.specs.Marked.{with_users}
use Rattle.upload_order.proofs.backing.push_users.Given as goal

abbrev pub invariant-loop-key : goal.invariant-loop-key
invariant-loop-key l = with_users l.ds l.keys.items (drop l.key-index l.of) ≡ with_users l.ds l.initial.keys.items l.of
