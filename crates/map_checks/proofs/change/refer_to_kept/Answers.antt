use Rattle.std.proofs.Common.{◌∙◌}
use Rattle.std.proofs.lemmas.Result.{on_ok_weaker}
use Rattle.dataset.specs.Draft.{drafted}
use Rattle.tool_api.specs.Changes.{changed, edit}
use Rattle.tool_api.specs.Fuse.{fused_content}
use Rattle.map_checks.proofs.change.refer_to_kept.Goals as goal

pub returns : goal.returns
returns c =
    let t = c.args.ds.now in
    let users = c.deref.ensures.value ∙ c.in_ok-users.ensures in
    on_ok_weaker c.edit_all.result (λ is. is ∙ (λ i. changed (drafted c.args.draft.now t) (edit t (fused_content (c.in_ok-named.ensures i) c.args.kept)) (users i))) c.edit_all.ensures
