use Rattle.std.proofs.Common.{◌<◌, ◌≤◌, ◌∙◌, ℤ, pos, length, get_or, ap, arith, rules, SFits, w64}
use Rattle.std.proofs.lemmas.Int.{to_z-of_z}
use Rattle.osm_base.specs.Content.{node}
use Rattle.osm_base.specs.declared.key.Key.{Key}
use Rattle.renamed_content.proofs.Mapped.{mapped_more, mapped_all}
use Rattle.renamed_content.proofs.contents.renamed_nodes.Goals as goal

pub loop-id-preserved : goal.loop-id-preserved
loop-id-preserved g c =
    let within : c.loop-id.id-index < length c.args.ids.now = omega arith in
    let id : ℤ = get_or c.args.ids.now c.loop-id.id-index (pos 0) in
    let fits : SFits w64 id = search rules in
    let made : SFits w64 c.key.result.id = search rules in
    let called : Key → Key = g.R.Renaming.key_named c.args.names.now in
    mapped_more (λ i. (called (node i)).id) c.args.ids.now c.loop-id.id-index (pos 0) _ _ _ _ within
    (to_z-of_z w64 c.key.result.id made ∙ ap (λ (k : Key). k.id) (c.key.ensures ∙ ap called (c.node_key.ensures ∙ ap node (to_z-of_z w64 id fits)))) c.in_ok-push.ensures.items c.loop-id.invariant

pub returns : goal.returns
returns g c =
    mapped_all (λ i. (g.R.Renaming.key_named c.args.names.now (node i)).id) c.args.ids.now c.loop-id.id-index _ _ (let h : length c.args.ids.now ≤ c.loop-id.id-index = omega arith in h) c.loop-id.invariant
