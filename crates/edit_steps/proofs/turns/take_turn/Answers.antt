use Rattle.std.proofs.Common.{refl, ap}
use Rattle.edit_steps.specs.Turn.{Turn}
use Rattle.edit_steps.proofs.Doings.{may_old, moved_for, plays_old}
use Rattle.edit_steps.proofs.turns.take_turn.Goals as goal

pub take-requires : goal.take-requires
take-requires g c = rw c.in-Takes.is at (may_old _ _ _ _ c.args.limits c.args.found.now c.args.act.now _ _ _ c.requires.fits c.ds.ensures c.group.ensures c.in_ok-doing.ensures)

pub run-requires : goal.run-requires
run-requires g c = rw c.in-Runs.is at (may_old _ _ _ _ c.args.limits c.args.found.now c.args.act.now _ _ _ c.requires.fits c.ds.ensures c.group.ensures c.in_ok-doing.ensures)

pub settle-requires : goal.settle-requires
settle-requires g c = rw c.in-Settles.is at (may_old _ _ _ _ c.args.limits c.args.found.now c.args.act.now _ _ _ c.requires.fits c.ds.ensures c.group.ensures c.in_ok-doing.ensures)

pub say-requires : goal.say-requires
say-requires g c = rw c.in-Says.is at (may_old _ _ _ _ c.args.limits c.args.found.now c.args.act.now _ _ _ c.requires.fits c.ds.ensures c.group.ensures c.in_ok-doing.ensures)

pub returns-in-Takes-clause-moved : goal.returns-in-Takes-clause-moved
returns-in-Takes-clause-moved g c = moved_for _ _ _ _ _ _ _ _ (rw c.in-Takes.is at (plays_old _ _ _ _ c.args.limits c.args.found.now c.args.act.now _ _ _ c.requires.fits c.ds.ensures c.group.ensures c.in_ok-doing.ensures)) c.take.ensures.moved

pub returns-in-Runs-clause-moved : goal.returns-in-Runs-clause-moved
returns-in-Runs-clause-moved g c = moved_for _ _ _ _ _ _ _ _ (rw c.in-Runs.is at (plays_old _ _ _ _ c.args.limits c.args.found.now c.args.act.now _ _ _ c.requires.fits c.ds.ensures c.group.ensures c.in_ok-doing.ensures)) c.run.ensures.moved

pub returns-in-Settles-clause-moved : goal.returns-in-Settles-clause-moved
returns-in-Settles-clause-moved g c = moved_for _ _ _ _ _ _ _ _ (rw c.in-Settles.is at (plays_old _ _ _ _ c.args.limits c.args.found.now c.args.act.now _ _ _ c.requires.fits c.ds.ensures c.group.ensures c.in_ok-doing.ensures)) c.settle.ensures.moved

pub returns-in-Says-clause-moved : goal.returns-in-Says-clause-moved
returns-in-Says-clause-moved g c = moved_for _ _ _ _ _ _ _ _ (rw c.in-Says.is at (plays_old _ _ _ _ c.args.limits c.args.found.now c.args.act.now _ _ _ c.requires.fits c.ds.ensures c.group.ensures c.in_ok-doing.ensures)) c.say.ensures.moved

pub returns-in-Stays-clause-moved : goal.returns-in-Stays-clause-moved
returns-in-Stays-clause-moved g c =
    let same = rw c.in-Stays.is at (plays_old _ _ _ _ c.args.limits c.args.found.now c.args.act.now _ _ _ c.requires.fits c.ds.ensures c.group.ensures c.in_ok-doing.ensures) in
    record { valid = c.requires.fits.valid; verbs = refl; answer = ap (λ (m : Turn). m.answer) same; state = ap (λ (m : Turn). m.state) same }
