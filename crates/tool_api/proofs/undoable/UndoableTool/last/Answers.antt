use Rattle.std.proofs.Common.{◌∙◌, ap}
use Rattle.tool_api.specs.Patches.{newest_of}
use Rattle.tool_api.proofs.Ends.{newest_got}
use Rattle.tool_api.proofs.undoable.UndoableTool.last.Goals as goal

pub returns : goal.returns
returns g c = c.last.ensures.value ∙ newest_got c.deref.result.now ∙ ap newest_of c.deref.ensures.value
