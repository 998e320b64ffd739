use Rattle.edit_session.proofs.Alone.{ran_alone}
use Rattle.edit_session.proofs.session.edit.Goals as goal

pub returns-clause-ran : goal.returns-clause-ran
returns-clause-ran g c = ran_alone c.args.limits _ _ _ _ _ _ c.args.steps.now c.requires.orderly c.requires.alone c.run_steps-ran.ensures.ran
