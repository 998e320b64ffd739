use Rattle.std.proofs.Common.{◌∙◌, subst}
use Rattle.way_split.specs.NodeChecks.{IsTested}
use Rattle.way_split.proofs.Endings.{split_refused}
use Rattle.way_split.proofs.split.split_plan.Goals as goal

pub returns-in-Refused : goal.returns-in-Refused
returns-in-Refused c = split_refused c.args.ds.now c.args.limit c.args.way c.args.nodes.now c.in-Refused.refusal (subst (IsTested c.args.ds.now c.args.way c.args.nodes.now) c.in-Refused.is c.in_ok-refusal.ensures)

pub pieces_plan-requires : goal.pieces_plan-requires
pieces_plan-requires c =
    let passed = subst (IsTested c.args.ds.now c.args.way c.args.nodes.now) c.in-Cut.is c.in_ok-refusal.ensures in
    record {
      sound = c.requires.sound;
      tests = passed.0;
      pieces = c.deref.ensures.value ∙ passed.1;
    }
