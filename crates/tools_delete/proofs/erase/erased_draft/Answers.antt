use Rattle.std.proofs.Common.{◌∙◌, ◌&&◌, ◌||◌, ap, not, filter, List}
use Rattle.std.proofs.lemmas.Result.{IfOk-weaker}
use Rattle.osm_base.specs.declared.key.Key.{Key}
use Rattle.tool_api.specs.Gone.{erased}
use Rattle.tool_api.specs.Checks.{is_named}
use Rattle.tools_delete.specs.Touched.{falls_short}
use Rattle.tools_delete.proofs.Erased.{erased_by}
use Rattle.tools_delete.proofs.erase.erased_draft.Goals as goal

pub returns : goal.returns
returns c =
    let t = c.args.ds.now in
    let named = c.in_ok-named.named in
    let falling = c.in_ok-falling.falling in
    IfOk-weaker c.mended_draft.result _ _
    (λ draft is. is ∙ erased_by t named c.in_ok-ways.ways.items falling c.in_ok-going.going c.deref-4.result.now c.deref-3.result.now
    c.in_ok-ways.ensures.found
    (λ q. c.in_ok-falling.ensures q ∙ ap (λ (ks : List Key). is_named named q || (falls_short t named q && is_named ks q)) c.deref.ensures.value)
    c.in_ok-going.ensures
    (λ q. ap (λ (ks : List Key). is_named ks q) c.deref-4.ensures.value ∙ c.in_ok-relations.ensures.found q)
    (c.deref-3.ensures.value ∙ c.in_ok-staying.ensures ∙ ap (filter (λ k. not (is_named falling k))) c.deref-2.ensures.value)
    ∙ ap (erased t) c.in_ok-named.ensures)
    c.mended_draft.ensures
