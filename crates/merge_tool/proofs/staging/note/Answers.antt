use Rattle.merge_tool.proofs.Puts.{note_put}
use Rattle.merge_tool.proofs.staging.note.Goals as goal

pub returns-in_ok-put_shared-in-Some-clause-table : goal.returns-in_ok-put_shared-in-Some-clause-table
returns-in_ok-put_shared-in-Some-clause-table c t = note_put c.args.draft.now c.put_shared.new.self t c.args.key c.args.entry c.in-Some.entry c.in_ok-put_shared-in-Some.ensures.ok c.in-Some.is
