use Rattle.std.proofs.Common.{refl, sym, ◌∙◌, ap, subst, ◌+◌, get_or, Err}
use Rattle.std.specs.List.{slice_get}
use Rattle.std.specs.Option.{option_copied}
use Rattle.dataset.specs.Draft.{drafted}
use Rattle.placeholder.specs.Confirm.{Drafts, taken_at}
use Rattle.osm_table.specs.Table.{TableValue}
use Rattle.placeholder.specs.Drafting.{answered_by, drafts_from}
use Rattle.placeholder.proofs.Drafted.{start_is, draft_goes, fault_goes}
use Rattle.placeholder.proofs.confirming.drafted.Goals as goal

pub loop-answer-init : goal.loop-answer-init
loop-answer-init c = (refl, ap (λ (u : TableValue). drafts_from c.args.ds.now 1 u c.args.changes.now c.args.answers.now) (start_is c.args.ds.now c.new-draft.result c.new-draft.ensures))

pub loop-answer-preserved : goal.loop-answer-preserved
loop-answer-preserved c =
    let t = c.args.ds.now in
    let at = c.loop-answer.invariant.0 in
    let a = get_or c.args.answers.now c.loop-answer.answer-index _ in
    let u = drafted c.loop-answer.draft t in
    let taken = subst (λ r. Drafts t r (taken_at (c.loop-answer.at + 1) u (option_copied c.change_at.result) a (answered_by t u a))) c.in-Ok.is c.take.ensures in (
      ap (λ n. n + 1) at,
      draft_goes t c.loop-answer.draft c.in-Ok.draft (c.loop-answer.answer-index + 1) c.args.changes.now c.args.answers.now c.loop-answer.answer-index _ _ c.loop-answer-test.true c.loop-answer.invariant.1
          ((λ i. taken_at (sym at i + 1) u (slice_get c.args.changes.now (sym at i)) a (answered_by t u a)) ∙ ap (λ o. taken_at (c.loop-answer.at + 1) u o a (answered_by t u a)) (sym c.change_at.ensures) ∙ taken),
    )

pub returns-in-Err : goal.returns-in-Err
returns-in-Err c =
    let t = c.args.ds.now in
    let at = c.loop-answer.invariant.0 in
    let a = get_or c.args.answers.now c.loop-answer.answer-index _ in
    let u = drafted c.loop-answer.draft t in
    let taken = subst (λ r. Drafts t r (taken_at (c.loop-answer.at + 1) u (option_copied c.change_at.result) a (answered_by t u a))) c.in-Err.is c.take.ensures in
    fault_goes t c.loop-answer.draft (c.loop-answer.answer-index + 1) c.args.changes.now c.args.answers.now c.loop-answer.answer-index _ _ c.in-Err.fault c.loop-answer-test.true c.loop-answer.invariant.1
    (subst (λ x. Drafts t (Err c.in-Err.fault) x) (ap (λ o. taken_at (c.loop-answer.at + 1) u o a (answered_by t u a)) c.change_at.ensures ∙ (λ i. taken_at (at i + 1) u (slice_get c.args.changes.now (at i)) a (answered_by t u a))) taken)
