use Rattle.std.proofs.Common.{map, take, drop}
use Rattle.osm_base.specs.declared.members.Member.{Member}
use Rattle.download.specs.TellCode.{ArePositive, AreMentioned}
use Rattle.download.proofs.telling.mention_members.Given as goal

abbrev pub invariant-loop-member : goal.invariant-loop-member
invariant-loop-member l = record {
  positive : ArePositive (map (λ (m : Member). m.key) (drop l.member-index l.members));
  mentioned : AreMentioned l.fn.told l.told (map (λ (m : Member). m.key) (take l.member-index l.members)) l.there;
}
