use Rattle.std.proofs.Common.{◌<◌, ◌∷◌, [], List, length, map, ap, subst, arith}
use Rattle.std.proofs.lemmas.List.{drop_more, map-append}
use Rattle.osm_base.specs.declared.key.Key.{Key}
use Rattle.osm_base.specs.declared.members.Member.{Member}
use Rattle.download.specs.TellCode.{ArePositive}
use Rattle.download.proofs.Closed.{next_mentioned, one_mentioned}
use Rattle.download.proofs.telling.mention_members.Goals as goal

abbrev keys_of : List Member → List Key
keys_of members = map (λ (m : Member). m.key) members

pub loop-member-preserved : goal.loop-member-preserved
loop-member-preserved c =
    let within : c.loop-member.member-index < length c.args.members.now = omega arith in
    let member : Member = c.member-item.result in
    record {
      positive = (subst (λ (members : List Member). ArePositive (keys_of members)) (drop_more c.args.members.now c.loop-member.member-index member within) c.loop-member.invariant.positive).1;
      mentioned = next_mentioned keys_of (map-append (λ (m : Member). m.key)) c.args.members.now c.loop-member.member-index member (member.key ∷ []) c.args.told.now c.loop-member.told c.mention.new.self c.loop-member.there c.in_ok-there.field-0
          within (ap (λ (m : Member). m.key ∷ []) c.member-item.is) c.loop-member.invariant.mentioned
          (one_mentioned c.loop-member.told c.mention.new.self member.key c.in_ok-there.field-0 c.in_ok-there.ensures.ok c.in_ok-there.ensures.there);
    }
