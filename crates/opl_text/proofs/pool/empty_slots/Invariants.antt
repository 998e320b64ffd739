use Rattle.std.proofs.Common.{◌-◌, ◌≤◌}
use Rattle.std.specs.Prelude.{vec_len}
use Rattle.opl_text.proofs.pool.empty_slots.Given as goal

abbrev pub invariant-loop-slots : goal.invariant-loop-slots
invariant-loop-slots l = vec_len l.slots ≤ 1024

abbrev pub decreases-loop-slots : goal.decreases-loop-slots
decreases-loop-slots l = 1024 - vec_len l.slots
