use Rattle.std.proofs.Common.{sym}
use Rattle.tools_basic.proofs.Replaced.{place_sound}
use Rattle.tools_basic.proofs.change.place_plan.Goals as goal

pub edits_plan-requires : goal.edits_plan-requires
edits_plan-requires c = record { sound = place_sound c.args.ds.now c.args.key c.args.at c.args.limit c.requires.sound (sym c.in_default.ensures) }
