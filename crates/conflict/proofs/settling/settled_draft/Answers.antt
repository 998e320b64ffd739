use Rattle.conflict.proofs.Settled.{settled_is}
use Rattle.conflict.proofs.settling.settled_draft.Goals as goal

pub returns : goal.returns
returns c = settled_is c.args.ds.now c.new-draft.result c.put_shared.new.self c.enter_all.new.draft c.args.key c.args.entry c.args.refs.now c.requires.refs c.new-draft.ensures c.in_ok-put_shared.ensures.ok c.in_ok-enter_all.ensures.entries c.in_ok-enter_all.ensures.number
