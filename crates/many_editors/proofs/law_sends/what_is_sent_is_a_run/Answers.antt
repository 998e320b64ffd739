use Rattle.many_editors.proofs.Running.{sent_runs}
use Rattle.many_editors.proofs.law_sends.what_is_sent_is_a_run.Goals as goal

pub returns : goal.returns
returns c = sent_runs
