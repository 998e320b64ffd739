use Rattle.std.proofs.Common.{◌≡◌, ◌∙◌, sym, ap, not, ◌&&◌, filter}
use Rattle.std.specs.List.{flat_map}
use Rattle.std.proofs.lemmas.Result.{IfOk-weaker}
use Rattle.osm_base.specs.declared.key.Key.{Key}
use Rattle.osm_table.specs.Table.{users}
use Rattle.tool_api.specs.Checks.{is_named}
use Rattle.tool_api.specs.Distinct.{distinct}
use Rattle.tool_api.proofs.Distincts.{distinct_once}
use Rattle.tools_delete.specs.Touched.{lives_as_way}
use Rattle.tools_delete.proofs.Touches.{mended_found}
use Rattle.tools_delete.proofs.touched.mended_ways.Goals as goal

pub returns-clause-found : goal.returns-clause-found
returns-clause-found c =
    let t = c.args.ds.now in
    let named = c.args.named.now in
    let passes = λ (u : Key). not (is_named named u) && lives_as_way t u in
    let all : c.in_ok-ways.ways.items ≡ filter passes (flat_map (users t) named) = c.in_ok-ways.ensures ∙ ap (filter passes) (c.deref.ensures.value ∙ c.in_ok-users.ensures ∙ ap (flat_map (users t)) c.as_slice.ensures) in
    IfOk-weaker c.distinct.result _ _ (λ ways is. mended_found t named ways.items (is ∙ ap distinct (c.deref-2.ensures.value ∙ all))) c.distinct.ensures

pub returns-clause-once : goal.returns-clause-once
returns-clause-once c = IfOk-weaker c.distinct.result _ _ (λ once is. ap distinct is ∙ distinct_once c.deref-2.result.now ∙ sym is) c.distinct.ensures
