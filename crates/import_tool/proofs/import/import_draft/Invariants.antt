use Rattle.std.proofs.Common.{◌≡◌, ◌+◌, ◌≤◌, map, drop}
use Rattle.dataset.specs.Draft.{drafted}
use Rattle.renamed_content.specs.Renamed.{renamed}
use Rattle.tool_api.specs.Changes.{all_added}
use Rattle.import_tool.specs.Known.{called}
use Rattle.import_tool.proofs.import.import_draft.Given as goal

abbrev pub invariant-loop-object : goal.invariant-loop-object
invariant-loop-object l =
    (all_added (drafted l.draft l.ds) (map (λ o. renamed (called l.names.keys.entries) o.content) (drop l.object-index l.objects))
    ≡ all_added l.ds (map (λ o. renamed (called l.names.keys.entries) o.content) l.objects))
    × (1 ≤ l.draft.next) × (l.draft.next ≤ l.ds.next + l.object-index)
