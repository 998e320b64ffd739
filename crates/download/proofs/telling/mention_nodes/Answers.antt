use Rattle.std.proofs.Common.{◌<◌, ◌∷◌, [], ℤ, List, pos, length, get_or, map, ap, subst, ◌∙◌, arith, rules, SFits, w64}
use Rattle.std.proofs.lemmas.Int.{to_z-of_z}
use Rattle.std.proofs.lemmas.List.{drop_more, map-append}
use Rattle.osm_base.specs.Content.{node}
use Rattle.osm_base.specs.declared.key.Key.{Key}
use Rattle.download.specs.TellCode.{ArePositive}
use Rattle.download.proofs.Closed.{next_mentioned, one_mentioned}
use Rattle.download.proofs.telling.mention_nodes.Goals as goal

pub loop-id-preserved : goal.loop-id-preserved
loop-id-preserved c =
    let within : c.loop-id.id-index < length c.args.ids.now = omega arith in
    let id : ℤ = get_or c.args.ids.now c.loop-id.id-index (pos 0) in
    let fits : SFits w64 id = search rules in
    let key : Key = c.node_key.result in
    record {
      positive = (subst (λ (ids : List ℤ). ArePositive (map node ids)) (drop_more c.args.ids.now c.loop-id.id-index (pos 0) within) c.loop-id.invariant.positive).1;
      mentioned = next_mentioned (λ (ids : List ℤ). map node ids) (map-append node) c.args.ids.now c.loop-id.id-index (pos 0) (key ∷ []) c.args.told.now c.loop-id.told c.mention.new.self c.loop-id.there c.in_ok-there.field-0
          within (ap (λ (k : Key). k ∷ []) (c.node_key.ensures ∙ ap node (to_z-of_z w64 id fits))) c.loop-id.invariant.mentioned
          (one_mentioned c.loop-id.told c.mention.new.self key c.in_ok-there.field-0 c.in_ok-there.ensures.ok c.in_ok-there.ensures.there);
    }
