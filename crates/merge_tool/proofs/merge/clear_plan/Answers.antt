use Rattle.std.proofs.Common.{◌∙◌, sym}
use Rattle.dataset.specs.Draft.{drafted}
use Rattle.merge_tool.proofs.Plans.{drafted_is, drafted_sound, no_room, taken_in}
use Rattle.merge_tool.proofs.merge.clear_plan.Goals as goal

pub returns-in-Some : goal.returns-in-Some
returns-in-Some c =
    let t = c.args.ds.now in
    let m = c.args.told.now in
    no_room t m c.args.limit (drafted c.in_ok-draft.draft t) c.in-Some.refusal (sym c.requires.clear)
    (drafted_is t m c.in_ok-draft.draft c.in_ok-draft.ensures.entries (c.in_ok-draft.ensures.number ∙ c.requires.number)) (sym c.in-Some.is ∙ c.in_ok-refusal.ensures)

pub returns : goal.returns
returns c =
    let t = c.args.ds.now in
    let m = c.args.told.now in
    let is = drafted_is t m c.in_ok-draft.draft c.in_ok-draft.ensures.entries (c.in_ok-draft.ensures.number ∙ c.requires.number) in (
      drafted_sound t m (drafted c.in_ok-draft.draft t) c.requires.sound c.sound.ensures.told_map is,
      taken_in t m c.args.limit (drafted c.in_ok-draft.draft t) c.new.result (sym c.requires.clear) is (sym c.in_default.is ∙ c.in_ok-refusal.ensures) c.new.ensures,
    )
