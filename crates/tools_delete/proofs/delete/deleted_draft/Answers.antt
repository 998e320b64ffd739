use Rattle.tool_api.specs.Changes.{delete}
use Rattle.tool_api.proofs.Looks.{from_none}
use Rattle.tools_delete.proofs.delete.deleted_draft.Goals as goal

pub returns : goal.returns
returns c = from_none c.args.ds.now (delete c.args.ds.now) c.args.keys.now _ _ c.new-draft.ensures c.in_ok-delete_all.ensures
