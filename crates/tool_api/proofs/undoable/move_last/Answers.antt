use Rattle.std.proofs.Common.{◌∙◌, sym, ap, ◌++◌, ◌∷◌, []}
use Rattle.dataset.specs.Patch.{PatchValue}
use Rattle.tool_api.specs.Patches.{last_patch, front}
use Rattle.tool_api.proofs.Ends.{last_pushed, front_pushed}
use Rattle.tool_api.proofs.undoable.move_last.Goals as goal

pub returns-in-Ok-clause-front : goal.returns-in-Ok-clause-front
returns-in-Ok-clause-front c = sym (ap front c.in-Some.ensures.items ∙ front_pushed _ _)

pub returns-in-Ok-clause-pushed : goal.returns-in-Ok-clause-pushed
returns-in-Ok-clause-pushed c =
    c.in-Ok.ensures.items ∙ ap (λ (p : PatchValue). c.args.to.now.items ++ p ∷ []) (sym (ap last_patch c.in-Some.ensures.items ∙ last_pushed c.pop.new.self.items c.in-Some.patch))
