use Rattle.std.proofs.Common.{◌≡◌, take}
use Rattle.dataset.specs.Sides.{writes_of}
use Rattle.dataset.proofs.writes.push_writes.Given as goal

abbrev pub invariant-loop-edit : goal.invariant-loop-edit
invariant-loop-edit l = l.writes.items ≡ writes_of l.forth (take l.edit-index l.edits)
