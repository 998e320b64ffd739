use Rattle.std.proofs.Common.{◌≡◌, drop, map}
use Rattle.server_world.specs.Putting.{with_mentions}
use Rattle.server_world.proofs.bases.put_members.Given as goal

abbrev pub invariant-loop-member : goal.invariant-loop-member
invariant-loop-member l = with_mentions l.ds l.objects (map (λ m. m.key) (drop l.member-index l.members)) ≡ with_mentions l.ds l.initial.objects (map (λ m. m.key) l.members)
