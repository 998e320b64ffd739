use Rattle.placeholder.proofs.Resumed.{ready_again, rest_again}
use Rattle.placeholder.proofs.laws.plan_is_resumed.Goals as goal

pub returns-clause-ready : goal.returns-clause-ready
returns-clause-ready c = λ w t a. ready_again w t a.change a.rest a.id a.answered.ready a.answered.changes a.answered.answer

pub returns-clause-rest : goal.returns-clause-rest
returns-clause-rest c = λ w t a. rest_again w t a.change a.rest a.id a.answered.ready a.answered.changes a.answered.answer
