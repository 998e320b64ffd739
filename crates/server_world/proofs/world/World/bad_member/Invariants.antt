use Rattle.std.proofs.Common.{◌≡◌, drop, map, not}
use Rattle.std.specs.List.{find}
use Rattle.upload_order.specs.World.{reaches}
use Rattle.server_world.proofs.world.World.bad_member.Given as goal

abbrev pub invariant-loop-member : goal.invariant-loop-member
invariant-loop-member l = find (λ r. not (reaches l.self r)) (map (λ m. m.key) (drop l.member-index l.members)) ≡ find (λ r. not (reaches l.self r)) (map (λ m. m.key) l.members)
