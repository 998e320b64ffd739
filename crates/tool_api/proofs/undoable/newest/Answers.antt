use Rattle.std.proofs.Common.{◌∙◌}
use Rattle.tool_api.proofs.Ends.{last_got}
use Rattle.tool_api.proofs.undoable.newest.Goals as goal

pub returns : goal.returns
returns c = c.index-patches-patches.is ∙ last_got c.args.patches.now _ c.requires
