use Rattle.std.proofs.Common.{◌∙◌, sym, subst, IfOk}
use Rattle.tool_api.specs.Planned.{Plans}
use Rattle.tools_delete.proofs.Erases.{erase_sound, erase_ends}
use Rattle.tools_delete.proofs.erase.erase_plan.Goals as goal

pub closed-requires : goal.closed-requires
closed-requires c = record { sound = erase_sound c.args.ds.now _ c.args.keys.now c.args.limit c.requires.sound (sym c.in_ok-refusal.ensures ∙ c.in_default.is) c.in_ok-draft.ensures }

pub returns : goal.returns
returns c =
    subst (λ o. IfOk c.closed.result (Plans c.args.ds.now o))
    (erase_ends c.args.ds.now _ c.args.keys.now _ c.args.limit (sym c.in_ok-refusal.ensures ∙ c.in_default.is) c.new-made.ensures c.in_ok-draft.ensures) c.closed.ensures
