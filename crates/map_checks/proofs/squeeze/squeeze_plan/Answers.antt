use Rattle.std.proofs.Common.{sym, ◌∙◌}
use Rattle.map_checks.proofs.Squeezes.{squeezed_sound}
use Rattle.map_checks.proofs.squeeze.squeeze_plan.Goals as goal

pub edits_plan-requires : goal.edits_plan-requires
edits_plan-requires c = record { sound = squeezed_sound c.args.ds.now c.args.keys.now c.args.limit c.requires.sound (sym c.in_ok-refusal.ensures ∙ c.in_default.is) }
