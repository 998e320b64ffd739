use Rattle.std.proofs.Common.{add-one, ◌∙◌, ap, ◌++◌, []}
use Rattle.dataset.specs.Draft.{drafted}
use Rattle.tool_api.specs.Staged.{lost_of, refs_by}
use Rattle.merge_tool.specs.Walks.{lost_refs}
use Rattle.merge_tool.proofs.Appends.{flat_more}
use Rattle.merge_tool.proofs.wanting.lost_names.Goals as goal

pub loop-i-preserved : goal.loop-i-preserved
loop-i-preserved c = rw add-one (flat_more (lost_refs (drafted c.args.draft.now c.args.ds.now)) c.args.keys.now [] _ _ c.loop-i.i c.index.result.now c.loop-i.invariant c.index.ensures
    (c.in_ok-push_refs_by.ensures ∙ ap (λ o. c.loop-i.names.items ++ refs_by o) (c.lost.ensures ∙ ap lost_of c.entry.ensures)))
