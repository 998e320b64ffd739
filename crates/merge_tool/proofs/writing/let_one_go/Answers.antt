use Rattle.merge_tool.specs.Passes.{left}
use Rattle.merge_tool.proofs.Puts.{put_left}
use Rattle.merge_tool.proofs.writing.let_one_go.Goals as goal

pub returns-clause-entries : goal.returns-clause-entries
returns-clause-entries c = put_left (left c.args.ds.now c.args.told.now.told c.args.held.now) c.args.draft.now c.put_shared.new.self c.args.ds.now c.args.key _ c.in_ok-put_shared.ensures.ok c.in_ok-entry.ensures
