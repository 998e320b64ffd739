use Rattle.std.proofs.Common.{◌≡◌, drop}
use Rattle.server_world.specs.Putting.{with_all_mentions}
use Rattle.server_world.proofs.bases.put_all_mentions.Given as goal

abbrev pub invariant-loop-key : goal.invariant-loop-key
invariant-loop-key l = with_all_mentions l.ds l.objects (drop l.key-index l.keys) ≡ with_all_mentions l.ds l.initial.objects l.keys
