use Rattle.std.proofs.Common.{◌≡◌, take}
use Rattle.edit_steps.specs.Counted.{counts_among}
use Rattle.edit_steps.proofs.counting.counts_among.Given as goal

abbrev pub invariant-loop-key : goal.invariant-loop-key
invariant-loop-key l = l.counts ≡ counts_among l.ds (take l.key-index l.keys)
