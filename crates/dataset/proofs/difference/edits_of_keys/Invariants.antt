use Rattle.std.proofs.Common.{take}
use Rattle.dataset.specs.Arrivals.{arrivals}
use Rattle.dataset.specs.Draft.{DiffOver, drafted}
use Rattle.dataset.proofs.difference.edits_of_keys.Given as goal

abbrev pub invariant-loop-key : goal.invariant-loop-key
invariant-loop-key l = DiffOver l.table (drafted (arrivals l.told.told l.table.next) l.table) (take l.key-index l.keys) l.edits.items
