use Rattle.std.proofs.Common.{List, [], length, sym, subst}
use Rattle.upload_order.specs.declared.change.Change.{Change}
use Rattle.upload_order.proofs.ClearLaw.{upload_ok}
use Rattle.placeholder.specs.Confirm.{Drafts, confirms}
use Rattle.placeholder.proofs.ConfirmLaw.{IsKept, start_kept, drafts_same, confirms_sound, drafted_sound}
use Rattle.placeholder.proofs.Numbered.{confirms_numbered, drafts_numbered}
use Rattle.placeholder.proofs.confirming.confirmed.Goals as goal

pub returns-clause-draft : goal.returns-clause-draft
returns-clause-draft c =
    let t = c.args.ds.now in
    let up = upload_ok t c.args.changes.now c.requires in
    let kept = subst (λ (cs : List Change). IsKept t [] t cs) (sym up.1) (start_kept t c.sound.ensures up.0) in
    subst (λ x. Drafts t c.drafted.result x) (drafts_same t c.args.answers.now c.args.changes.now 1 [] t kept) c.drafted.ensures

pub returns-clause-sound : goal.returns-clause-sound
returns-clause-sound c =
    let t = c.args.ds.now in
    let up = upload_ok t c.args.changes.now c.requires in
    let kept = subst (λ (cs : List Change). IsKept t [] t cs) (sym up.1) (start_kept t c.sound.ensures up.0) in
    drafted_sound t c.drafted.result (confirms t c.args.changes.now c.args.answers.now)
    (subst (λ x. Drafts t c.drafted.result x) (drafts_same t c.args.answers.now c.args.changes.now 1 [] t kept) c.drafted.ensures)
    (confirms_sound t c.args.answers.now c.args.changes.now 1 [] t kept)

pub returns-clause-numbered : goal.returns-clause-numbered
returns-clause-numbered c =
    let t = c.args.ds.now in
    let up = upload_ok t c.args.changes.now c.requires in
    let kept = subst (λ (cs : List Change). IsKept t [] t cs) (sym up.1) (start_kept t c.sound.ensures up.0) in
    drafts_numbered t c.drafted.result (confirms t c.args.changes.now c.args.answers.now) (length c.args.answers.now)
    (subst (λ x. Drafts t c.drafted.result x) (drafts_same t c.args.answers.now c.args.changes.now 1 [] t kept) c.drafted.ensures)
    (confirms_numbered c.args.answers.now c.args.changes.now 1 [] t)
