use Rattle.std.proofs.Common.{◌∙◌, sym}
use Rattle.tools_delete.proofs.Purges.{purge_planned}
use Rattle.tools_delete.proofs.purge.purge_plan.Goals as goal

pub returns : goal.returns
returns c =
    purge_planned c.args.ds.now c.in_ok-draft.draft c.args.keys.now _ _ c.requires.sound (sym c.in_ok-refusal.ensures ∙ c.in_default.is) (sym c.in_default-purge_tests.ensures)
    c.in_ok-named.ensures (sym c.in_default-new_use_tests.ensures) c.new-made.ensures c.in_ok-draft.ensures
