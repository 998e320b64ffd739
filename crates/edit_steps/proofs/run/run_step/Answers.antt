use Rattle.std.proofs.lemmas.Result.{err_from_is_err_and}
use Rattle.edit_steps.specs.Turn.{turn, turn_text}
use Rattle.edit_steps.proofs.Steps.{nothing_yet}
use Rattle.edit_steps.proofs.run.run_step.Goals as goal

pub returns-in_err-response-clause-plays : goal.returns-in_err-response-clause-plays
returns-in_err-response-clause-plays g c =
    let p = err_from_is_err_and c.from_residual.result c.from_residual.ensures.1 in
    let moved = c.take_turn.ensures.moved in
    record { valid = moved.valid; verbs = moved.verbs; state = rw p.1 tt; ok = rw p.1 tt; err = rw p.1 (nothing_yet _ (turn_text c.args.step.now.line (turn c.args.limits c.args.found.now c.args.step.now.act _))) }
