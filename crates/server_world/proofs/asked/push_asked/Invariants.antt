use Rattle.std.proofs.Common.{◌≡◌, drop}
use Rattle.server_world.specs.Asked.{with_each, with_unknown}
use Rattle.server_world.proofs.asked.push_asked.Given as goal

abbrev pub invariant-loop-key : goal.invariant-loop-key
invariant-loop-key l = with_each (with_unknown l.ds) l.keys.items (drop l.key-index l.asked) ≡ with_each (with_unknown l.ds) l.initial.keys.items l.asked
