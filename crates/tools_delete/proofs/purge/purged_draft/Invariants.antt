use Rattle.std.proofs.Common.{◌≡◌, drop}
use Rattle.dataset.specs.Draft.{drafted}
use Rattle.tool_api.specs.Changes.{changed}
use Rattle.tools_delete.specs.Purged.{purged}
use Rattle.tools_delete.proofs.purge.purged_draft.Given as goal

abbrev pub invariant-loop-key : goal.invariant-loop-key
invariant-loop-key l = changed (drafted l.draft l.ds) (purged l.ds l.named) (drop l.key-index l.keys) ≡ changed l.ds (purged l.ds l.named) l.keys
