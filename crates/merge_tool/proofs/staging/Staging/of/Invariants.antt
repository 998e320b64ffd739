use Rattle.std.proofs.Common.{◌≡◌, take, filter}
use Rattle.std.specs.List.{flat_map}
use Rattle.osm_table.specs.Table.{entry_of}
use Rattle.dataset.specs.Draft.{drafted}
use Rattle.merge_tool.specs.Passes.{IsPassed, early, renewed_refs, is_going, is_clashing}
use Rattle.merge_tool.proofs.staging.Staging.of.Given as goal

abbrev pub invariant-loop-i : goal.invariant-loop-i
invariant-loop-i l =
    IsPassed (entry_of l.ds) (early l.ds l.told.told) (take l.i l.told.order) (drafted l.staging.draft l.ds)
    × (l.staging.names.items ≡ flat_map (renewed_refs l.ds l.told.told) (take l.i l.told.order))
    × (l.staging.candidates.items ≡ filter (is_going l.ds l.told.told) (take l.i l.told.order))
    × (l.staging.clashes.items ≡ filter (is_clashing l.ds l.told.told) (take l.i l.told.order))
    × (l.staging.draft.next ≡ l.ds.next)
