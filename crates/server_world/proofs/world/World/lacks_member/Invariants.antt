use Rattle.std.proofs.Common.{◌≡◌, drop, map, not, is_some}
use Rattle.std.specs.List.{list_any}
use Rattle.upload_order.specs.World.{content_at}
use Rattle.server_world.proofs.world.World.lacks_member.Given as goal

abbrev pub invariant-loop-member : goal.invariant-loop-member
invariant-loop-member l = list_any (λ r. not (is_some (content_at l.self r))) (map (λ m. m.key) (drop l.member-index l.members)) ≡ list_any (λ r. not (is_some (content_at l.self r))) (map (λ m. m.key) l.members)
