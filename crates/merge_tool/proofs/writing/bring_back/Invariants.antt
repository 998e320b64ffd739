use Rattle.std.proofs.Common.{◌≡◌, cond, take}
use Rattle.std.specs.Option.{option_map}
use Rattle.osm_base.specs.Rank.{is_key}
use Rattle.osm_base.specs.declared.key.Key.{Key}
use Rattle.osm_table.specs.Table.{entry_of}
use Rattle.dataset.specs.Draft.{drafted}
use Rattle.closure.specs.Closure.{has}
use Rattle.tool_api.specs.Staged.{back}
use Rattle.merge_tool.proofs.writing.bring_back.Given as goal

abbrev pub invariant-loop-i : goal.invariant-loop-i
invariant-loop-i l =
    ((q : Key) → entry_of (drafted l.draft l.ds) q ≡ cond (has is_key (take l.i l.wanted) q) (option_map back (entry_of (drafted l.initial.draft l.ds) q)) (entry_of (drafted l.initial.draft l.ds) q))
    × (l.draft.next ≡ l.initial.draft.next)
