use Rattle.std.proofs.Common.{◌∙◌, ap, ◌++◌, List}
use Rattle.std.proofs.lemmas.Result.{IfOk-weaker}
use Rattle.osm_base.specs.declared.key.Key.{Key}
use Rattle.tools_delete.proofs.Touches.{falling_found}
use Rattle.tools_delete.proofs.touched.falling.Goals as goal

pub returns : goal.returns
returns c =
    let t = c.args.ds.now in
    let named = c.args.named.now in
    let ways = c.args.ways.now in
    IfOk-weaker c.joined.result _ _
    (λ falling is. falling_found t named ways falling (is ∙ ap (λ (ks : List Key). ks ++ c.deref.result.now) c.as_slice.ensures ∙ ap (λ (ks : List Key). named ++ ks) (c.deref.ensures.value ∙ c.in_ok-short.ensures)))
    c.joined.ensures
