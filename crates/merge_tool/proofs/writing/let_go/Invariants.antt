use Rattle.std.proofs.Common.{◌≡◌, cond, take}
use Rattle.osm_base.specs.Rank.{is_key}
use Rattle.osm_base.specs.declared.key.Key.{Key}
use Rattle.osm_table.specs.Table.{entry_of}
use Rattle.dataset.specs.Draft.{drafted}
use Rattle.closure.specs.Closure.{has}
use Rattle.merge_tool.specs.Passes.{left}
use Rattle.merge_tool.proofs.writing.let_go.Given as goal

abbrev pub invariant-loop-i : goal.invariant-loop-i
invariant-loop-i l =
    ((q : Key) → entry_of (drafted l.draft l.ds) q ≡ cond (has is_key (take l.i l.candidates) q) (left l.ds l.told.told l.held q) (entry_of (drafted l.initial.draft l.ds) q))
    × (l.draft.next ≡ l.initial.draft.next)
