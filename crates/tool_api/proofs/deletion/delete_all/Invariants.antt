use Rattle.std.proofs.Common.{◌≡◌, drop}
use Rattle.dataset.specs.Draft.{drafted}
use Rattle.tool_api.specs.Changes.{changed, delete}
use Rattle.tool_api.proofs.deletion.delete_all.Given as goal

abbrev pub invariant-loop-key : goal.invariant-loop-key
invariant-loop-key l = changed (drafted l.draft l.ds) (delete l.ds) (drop l.key-index l.keys) ≡ changed (drafted l.initial.draft l.ds) (delete l.ds) l.keys
