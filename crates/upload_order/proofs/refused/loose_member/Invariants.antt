use Rattle.std.proofs.Common.{◌≡◌, drop, map}
use Rattle.std.specs.List.{find}
use Rattle.upload_order.specs.Refused.{is_loose_in}
use Rattle.upload_order.proofs.refused.loose_member.Given as goal

abbrev pub invariant-loop-member : goal.invariant-loop-member
invariant-loop-member l = find (is_loose_in l.ds l.vouched) (map (λ m. m.key) (drop l.member-index l.members)) ≡ find (is_loose_in l.ds l.vouched) (map (λ m. m.key) l.members)
