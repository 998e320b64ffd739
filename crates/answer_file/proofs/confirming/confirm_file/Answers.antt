use Rattle.answer_file.proofs.Resumes.{answers_resumed, answers_taken}
use Rattle.answer_file.proofs.confirming.confirm_file.Goals as goal

pub returns-clause-taken : goal.returns-clause-taken
returns-clause-taken c = λ w changes left ids told. answers_taken w c.args.ds.now changes left ids c.args.bytes.now c.confirmed_by.result told c.confirmed_by.ensures.value

pub returns-clause-resumed : goal.returns-clause-resumed
returns-clause-resumed c = λ w changes left ids told. answers_resumed w c.args.ds.now changes left ids c.args.bytes.now c.confirmed_by.result told c.confirmed_by.ensures.value
