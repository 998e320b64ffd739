use Rattle.std.proofs.Common.{◌≡◌, reverse, length}
use Rattle.map_search.specs.Reading.{taken}
use Rattle.map_search.proofs.pending.taken.Given as goal

abbrev pub invariant-loop-pending : goal.invariant-loop-pending
invariant-loop-pending l = taken l.fn.factor (reverse l.fn.stack.items) ≡ taken l.query (reverse l.stack.items)

abbrev pub decreases-loop-pending : goal.decreases-loop-pending
decreases-loop-pending l = length l.stack.items
