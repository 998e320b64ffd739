use Rattle.std.proofs.Common.{add-one, ◌∙◌, ap, ◌++◌, []}
use Rattle.dataset.specs.Exact.{mine_at}
use Rattle.tool_api.specs.Staged.{refs_by}
use Rattle.merge_tool.specs.Walks.{mine_refs}
use Rattle.merge_tool.proofs.Appends.{flat_more}
use Rattle.merge_tool.proofs.holding.held_names.Goals as goal

pub loop-i-preserved : goal.loop-i-preserved
loop-i-preserved c = rw add-one (flat_more (mine_refs c.args.ds.now) c.args.keys.now [] _ _ c.loop-i.i c.index.result.now c.loop-i.invariant c.index.ensures
    (c.in_ok-push_refs_by.ensures ∙ ap (λ o. c.loop-i.names.items ++ refs_by o) (c.living.ensures ∙ ap mine_at c.entry.ensures)))
