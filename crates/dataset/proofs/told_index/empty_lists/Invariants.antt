use Rattle.std.proofs.Common.{◌≡◌, [], replicate}
use Rattle.dataset.proofs.told_index.empty_lists.Given as goal

abbrev pub invariant-loop : goal.invariant-loop
invariant-loop l = l.users.items ≡ replicate l.counter []
