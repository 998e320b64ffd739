use Rattle.std.proofs.Common.{◌≡◌, take}
use Rattle.std.specs.List.{flat_map}
use Rattle.dataset.specs.Draft.{drafted}
use Rattle.merge_tool.specs.Walks.{lost_refs}
use Rattle.merge_tool.proofs.wanting.lost_names.Given as goal

abbrev pub invariant-loop-i : goal.invariant-loop-i
invariant-loop-i l = l.names.items ≡ flat_map (lost_refs (drafted l.draft l.ds)) (take l.i l.keys)
