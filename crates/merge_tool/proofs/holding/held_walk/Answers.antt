use Rattle.std.proofs.Common.{◌∙◌}
use Rattle.merge_tool.specs.Walks.{going_links}
use Rattle.merge_tool.specs.Passes.{held_starts}
use Rattle.merge_tool.proofs.Appends.{same_starts}
use Rattle.merge_tool.proofs.holding.held_walk.Goals as goal

pub returns : goal.returns
returns c = same_starts c.deref.result.now (held_starts c.args.ds.now c.args.told.now.told c.args.candidates.now c.args.names.now c.args.late.now) (going_links c.args.candidates.now c.args.ds.now) (λ marks. marks) c.reach.result (c.deref.ensures.value ∙ c.in_ok-starts.ensures) c.reach.ensures.ends
