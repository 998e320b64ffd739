use Rattle.std.proofs.Common.{◌≡◌, ◌∙◌, ap, ◌++◌, filter, List}
use Rattle.std.specs.List.{flat_map}
use Rattle.std.proofs.lemmas.Result.{IfOk-weaker}
use Rattle.osm_base.specs.declared.key.Key.{Key}
use Rattle.tool_api.specs.Changes.{content_of}
use Rattle.tool_api.specs.Distinct.{distinct}
use Rattle.tools_delete.specs.Touched.{is_free, way_nodes}
use Rattle.tools_delete.proofs.Touches.{going_found}
use Rattle.tools_delete.proofs.touched.going.Goals as goal

pub returns : goal.returns
returns c =
    let t = c.args.ds.now in
    let falling = c.args.falling.now in
    let nodes : c.in_ok-nodes-2.nodes.items ≡ distinct (flat_map (λ k. way_nodes (content_of t k)) falling) =
    c.in_ok-nodes-2.ensures ∙ ap distinct (c.deref.ensures.value ∙ c.in_ok-nodes.ensures ∙ ap (flat_map (λ k. way_nodes (content_of t k))) c.as_slice.ensures) in
    let free = c.in_ok-free.ensures ∙ ap (filter (is_free t falling)) (c.deref-2.ensures.value ∙ nodes) in
    IfOk-weaker c.joined.result _ _
    (λ going is. going_found t falling going (is ∙ ap (λ (ks : List Key). ks ++ c.deref-3.result.now) c.as_slice-2.ensures ∙ ap (λ (ks : List Key). falling ++ ks) (c.deref-3.ensures.value ∙ free)))
    c.joined.ensures
