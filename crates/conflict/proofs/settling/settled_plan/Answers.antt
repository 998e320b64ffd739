use Rattle.std.proofs.Common.{◌∙◌, sym, subst}
use Rattle.dataset.specs.Draft.{drafted}
use Rattle.dataset.specs.Sound.{IsSound}
use Rattle.conflict.proofs.Plans.{refused, no_room, settles}
use Rattle.conflict.proofs.settling.settled_plan.Goals as goal

pub returns-in-Some : goal.returns-in-Some
returns-in-Some c = refused c.args.ds.now c.args.limit c.args.key c.args.entry c.in-Some.refusal (sym c.in-Some.is ∙ c.in_ok-refusal.ensures)

pub returns-in-Some-2 : goal.returns-in-Some-2
returns-in-Some-2 c = no_room c.args.ds.now c.args.limit c.args.key c.args.entry (drafted c.in_ok-draft.draft c.args.ds.now) c.in-Some-2.refusal (sym c.in_default.is ∙ c.in_ok-refusal.ensures) c.in_ok-draft.ensures (sym c.in-Some-2.is ∙ c.in_ok-refusal-2.ensures)

pub returns : goal.returns
returns c = (
  subst IsSound (sym c.in_ok-draft.ensures) (c.requires.sound (sym c.in_ok-refusal.ensures ∙ c.in_default.is)),
  settles c.args.ds.now c.args.limit c.args.key c.args.entry (drafted c.in_ok-draft.draft c.args.ds.now) c.new.result (sym c.in_default.is ∙ c.in_ok-refusal.ensures) c.in_ok-draft.ensures (sym c.in_default-2.is ∙ c.in_ok-refusal-2.ensures) c.new.ensures,
)
