use Rattle.std.proofs.Common.{refl, sym, ◌∙◌, subst, IfOk}
use Rattle.tool_api.specs.Planned.{Plans}
use Rattle.import_tool.proofs.Ends.{refused, keeps, ends}
use Rattle.import_tool.proofs.import.named_plan.Goals as goal

pub returns-in-Some : goal.returns-in-Some
returns-in-Some c =
    refused c.args.ds.now c.args.limit c.args.objects.now _ _ refl c.requires.names c.in-Some.refusal (sym c.in_ok-refusal.ensures ∙ c.in-Some.is)

pub closed-requires : goal.closed-requires
closed-requires c =
    record { sound = keeps c.args.ds.now c.args.limit c.args.objects.now _ _ refl c.requires.names _ (sym c.in_ok-refusal.ensures ∙ c.in_default.is) c.requires.sound c.requires.objects c.in_ok-draft.ensures }

pub returns : goal.returns
returns c =
    subst (λ o. IfOk c.closed.result (Plans c.args.ds.now o))
    (ends c.args.ds.now c.args.limit c.args.objects.now _ _ refl c.requires.names _ _ _ (sym c.in_ok-refusal.ensures ∙ c.in_default.is) c.next.ensures c.in_ok-made.ensures c.in_ok-draft.ensures)
    c.closed.ensures
