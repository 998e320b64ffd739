use Rattle.std.proofs.Common.{◌≡◌, ◌++◌, take, map}
use Rattle.osm_base.proofs.references.push_members.Given as goal

abbrev pub invariant-loop-member : goal.invariant-loop-member
invariant-loop-member l = l.keys.items ≡ l.initial.keys.items ++ map (λ member. member.key) (take l.member-index l.members)
