use Rattle.dataset.specs.Draft.{drafted}
use Rattle.merge_tool.proofs.Puts.{name_lost, name_enters}
use Rattle.merge_tool.proofs.naming.name.Goals as goal

pub returns-in_ok-push-clause-entries : goal.returns-in_ok-push-clause-entries
returns-in_ok-push-clause-entries c = name_lost (drafted c.args.draft.now c.args.ds.now) c.args.key _ c.is_lost.result c.entry-entry.ensures c.is_lost.ensures c.if-is_lost.true

pub returns-in_ok-put_shared-clause-entries : goal.returns-in_ok-put_shared-clause-entries
returns-in_ok-put_shared-clause-entries c = name_enters c.args.draft.now c.put_shared.new.self c.args.ds.now c.args.key _ _ c.is_there.result c.is_lost.result c.in_ok-told.ensures c.entry-entry.ensures c.is_there.ensures c.if-is_there.false c.is_lost.ensures c.if-is_lost.false c.in_ok-put_shared.ensures.ok
