use Rattle.std.proofs.Common.{◌≡◌, ◌++◌, take, filter}
use Rattle.osm_base.specs.Rank.{is_key}
use Rattle.osm_base.specs.declared.key.Key.{Key}
use Rattle.osm_table.specs.Table.{entry_of}
use Rattle.dataset.specs.Draft.{drafted}
use Rattle.closure.specs.Closure.{has}
use Rattle.tool_api.specs.Staged.{bared}
use Rattle.merge_tool.specs.Walks.{is_lost}
use Rattle.merge_tool.proofs.naming.name_all.Given as goal

abbrev pub invariant-loop-key : goal.invariant-loop-key
invariant-loop-key l =
    ((q : Key) → entry_of (drafted l.draft l.ds) q ≡ bared (has is_key (take l.key-index l.names) q) (entry_of (drafted l.initial.draft l.ds) q))
    × (l.out.items ≡ l.initial.out.items ++ filter (is_lost (drafted l.initial.draft l.ds)) (take l.key-index l.names))
    × (l.draft.next ≡ l.initial.draft.next)
