use Rattle.std.proofs.Common.{◌≡◌, drop}
use Rattle.dataset.specs.Draft.{drafted}
use Rattle.tool_api.specs.Changes.{edit, changed}
use Rattle.tool_api.proofs.edits.edit_all.Given as goal

abbrev pub invariant-loop-key : goal.invariant-loop-key
invariant-loop-key g l =
    changed (drafted l.draft l.ds) (edit l.ds (g.E.EditContent.edited l.rule)) (drop l.key-index l.keys)
    ≡ changed (drafted l.initial.draft l.ds) (edit l.ds (g.E.EditContent.edited l.rule)) l.keys
