use Rattle.placeholder.proofs.Accepts.{accepts_answers}
use Rattle.placeholder.proofs.After.{after_all, front_taken}
use Rattle.placeholder.proofs.laws.plan_is_resumed_after.Goals as goal

pub returns-clause-ready : goal.returns-clause-ready
returns-clause-ready c = λ w v t a run. (after_all w v t a.changes a.rest a.ids a.answered.ready a.answered.changes a.answered.answers run).1

pub returns-clause-rest : goal.returns-clause-rest
returns-clause-rest c = λ w v t a run. (after_all w v t a.changes a.rest a.ids a.answered.ready a.answered.changes a.answered.answers run).2

pub returns-clause-taken : goal.returns-clause-taken
returns-clause-taken c = λ w t a. front_taken w t a.changes a.rest a.ids a.answered.ready a.answered.changes a.answered.answers.0

pub returns-clause-accepted : goal.returns-clause-accepted
returns-clause-accepted c = λ w t a.
    let h = a.answered in
    let run = front_taken w t a.changes a.rest a.ids h.ready h.changes h.answers.0 in
    accepts_answers t a.changes a.rest a.ids (after_all w run.0 t a.changes a.rest a.ids h.ready h.changes h.answers run.1).0 h.answers.1
