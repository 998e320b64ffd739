use Rattle.std.proofs.Common.{◌∙◌, ◌≡◌, sym, ap, subst, ◌++◌, ◌∷◌, [], List}
use Rattle.dataset.specs.Patch.{PatchValue, StandsBefore, after_of}
use Rattle.dataset.specs.Sound.{IsSound}
use Rattle.tool_api.specs.Patches.{first_patch, last_patch, turned}
use Rattle.tool_api.proofs.Ends.{first_turned, rest_turned}
use Rattle.tool_api.proofs.undoable.UndoableTool.redo.Goals as goal

pub apply-requires-clause-stands : goal.apply-requires-clause-stands
apply-requires-clause-stands g c =
    let newest : c.newest.result.now ≡ first_patch (turned c.args.self.now.ahead.items) = c.newest.ensures ∙ ap last_patch c.deref.ensures.value ∙ sym (first_turned c.args.self.now.ahead.items) in
    subst (λ (p : PatchValue). StandsBefore p c.args.ds.now) (sym newest) c.requires.stands

pub apply-requires-clause-sound : goal.apply-requires-clause-sound
apply-requires-clause-sound g c =
    let newest : c.newest.result.now ≡ first_patch (turned c.args.self.now.ahead.items) = c.newest.ensures ∙ ap last_patch c.deref.ensures.value ∙ sym (first_turned c.args.self.now.ahead.items) in
    subst (λ (p : PatchValue). IsSound (after_of p c.args.ds.now)) (sym newest) c.requires.sound

pub returns-clause-table : goal.returns-clause-table
returns-clause-table g c =
    let newest : c.newest.result.now ≡ first_patch (turned c.args.self.now.ahead.items) = c.newest.ensures ∙ ap last_patch c.deref.ensures.value ∙ sym (first_turned c.args.self.now.ahead.items) in
    c.in_ok-apply.ensures.ok ∙ ap (λ (p : PatchValue). after_of p c.args.ds.now) newest

pub returns-clause-done : goal.returns-clause-done
returns-clause-done g c =
    c.move_last.ensures.pushed
    ∙ ap (λ (ps : List PatchValue). ps ++ last_patch c.args.self.now.ahead.items ∷ []) c.in_ok-reserve.ensures.items
    ∙ ap (λ (p : PatchValue). c.args.self.now.behind.items ++ p ∷ []) (sym (first_turned c.args.self.now.ahead.items))

pub returns-clause-undone : goal.returns-clause-undone
returns-clause-undone g c = ap turned c.move_last.ensures.front ∙ sym (rest_turned c.args.self.now.ahead.items)
