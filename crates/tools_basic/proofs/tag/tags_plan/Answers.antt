use Rattle.std.proofs.Common.{sym, ◌∙◌}
use Rattle.tools_basic.proofs.Retags.{tags_sound}
use Rattle.tools_basic.proofs.tag.tags_plan.Goals as goal

pub edits_plan-requires : goal.edits_plan-requires
edits_plan-requires c = record { sound = tags_sound c.args.ds.now c.args.keys.now c.args.limit c.args.pairs.now c.requires.sound (sym c.in_ok-refusal.ensures ∙ c.in_default.is) }
