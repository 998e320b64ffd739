use Rattle.std.proofs.Common.{◌∙◌, ap, ◌++◌, ◌∷◌, [], List}
use Rattle.dataset.specs.Patch.{PatchValue}
use Rattle.tool_api.specs.Patches.{last_patch, turned}
use Rattle.tool_api.proofs.Ends.{turned_pushed}
use Rattle.tool_api.proofs.undoable.UndoableTool.undo.Goals as goal

pub returns-clause-undone : goal.returns-clause-undone
returns-clause-undone g c =
    let last : PatchValue = last_patch c.args.self.now.behind.items in
    ap turned c.move_last.ensures.pushed
    ∙ ap (λ (ps : List PatchValue). turned (ps ++ last ∷ [])) c.in_ok-reserve.ensures.items
    ∙ turned_pushed c.args.self.now.ahead.items last
