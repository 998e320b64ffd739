use Rattle.std.proofs.Common.{take}
use Rattle.std.specs.FinMap as fin
use Rattle.std.specs.Map.{keys_of}
use Rattle.dataset.specs.Draft.{DiffOver}
use Rattle.dataset.specs.PatchKept.{nothing}
use Rattle.dataset.proofs.difference.push_entries.Given as goal

abbrev pub invariant-loop-i : goal.invariant-loop-i
invariant-loop-i l = DiffOver nothing (record { entries = fin.from_entries l.entries; next = 1 }) (take l.i (keys_of l.entries)) l.edits.items
