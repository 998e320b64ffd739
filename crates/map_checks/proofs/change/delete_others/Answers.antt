use Rattle.std.proofs.Common.{◌∙◌, ap}
use Rattle.std.proofs.lemmas.Result.{on_ok_weaker}
use Rattle.dataset.specs.Draft.{drafted}
use Rattle.tool_api.specs.Changes.{changed, delete}
use Rattle.map_checks.proofs.change.delete_others.Goals as goal

pub returns : goal.returns
returns c =
    let t = c.args.ds.now in
    on_ok_weaker c.delete_all.result (λ is. is ∙ ap (changed (drafted c.args.draft.now t) (delete t)) (c.deref.ensures.value ∙ c.in_ok-others.ensures)) c.delete_all.ensures
