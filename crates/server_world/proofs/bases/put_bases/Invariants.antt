use Rattle.std.proofs.Common.{◌≡◌, drop}
use Rattle.server_world.specs.Putting.{with_bases}
use Rattle.server_world.proofs.bases.put_bases.Given as goal

abbrev pub invariant-loop-key : goal.invariant-loop-key
invariant-loop-key l = with_bases l.ds l.objects (drop l.key-index l.keys) ≡ with_bases l.ds l.initial.objects l.keys
