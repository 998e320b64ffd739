use Rattle.std.proofs.Common.{◌≡◌, [], drop}
use Rattle.upload_order.specs.Marked.{with_unknown}
use Rattle.upload_order.proofs.backing.list_unknown.Given as goal

abbrev pub invariant-loop-key : goal.invariant-loop-key
invariant-loop-key l = with_unknown l.ds l.unknown.items (drop l.key-index l.changed) ≡ with_unknown l.ds [] l.changed
