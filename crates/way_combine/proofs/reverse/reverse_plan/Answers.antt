use Rattle.std.proofs.Common.{sym}
use Rattle.way_combine.proofs.Turns.{turned_sound}
use Rattle.way_combine.proofs.reverse.reverse_plan.Goals as goal

pub edits_plan-requires : goal.edits_plan-requires
edits_plan-requires c = record { sound = turned_sound c.args.ds.now c.args.way c.args.limit (sym c.in_default.ensures) c.requires.sound }
