use Rattle.std.proofs.Common.{refl}
use Rattle.edit_steps.proofs.Doings.{moved_saying}
use Rattle.edit_steps.proofs.turns.say.Goals as goal

pub returns-clause-moved : goal.returns-clause-moved
returns-clause-moved g c = moved_saying _ _ _ _ _ _ _ c.args.reply _ _ c.alone.ensures refl c.in_ok-step.ensures.moved
