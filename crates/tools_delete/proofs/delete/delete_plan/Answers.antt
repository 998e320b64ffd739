use Rattle.std.proofs.Common.{◌∙◌, sym}
use Rattle.tools_delete.proofs.Deletes.{delete_planned}
use Rattle.tools_delete.proofs.delete.delete_plan.Goals as goal

pub returns : goal.returns
returns c =
    delete_planned c.args.ds.now c.in_ok-draft.draft c.args.keys.now _ _ c.requires.sound (sym c.in_ok-refusal.ensures ∙ c.in_default.is)
    c.in_ok-named.ensures (sym c.in_default-use_tests.ensures) c.new-made.ensures c.in_ok-draft.ensures
