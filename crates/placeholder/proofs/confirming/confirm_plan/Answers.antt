use Rattle.std.proofs.Common.{subst}
use Rattle.dataset.specs.Draft.{drafted}
use Rattle.dataset.specs.Sound.{IsSound}
use Rattle.dataset.proofs.Laws.{diff_leads}
use Rattle.placeholder.proofs.confirming.confirm_plan.Goals as goal

pub returns-clause-sound : goal.returns-clause-sound
returns-clause-sound c =
    let t = c.args.ds.now in
    subst IsSound (diff_leads t (drafted c.in_ok-draft.draft t) c.in_ok-patch.patch c.in_ok-patch.ensures.differs).to c.in_ok-draft.ensures.sound
