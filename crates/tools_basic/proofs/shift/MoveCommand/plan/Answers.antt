use Rattle.std.proofs.Common.{◌≡◌, to_z, of_z, w64, to_z-of_z, arith}
use Rattle.tools_basic.proofs.shift.MoveCommand.plan.Goals as goal

pub returns : goal.returns
returns c =
    let dx : to_z w64 (of_z w64 c.in-Shift.dx) ≡ c.in-Shift.dx = grind (arith, to_z-of_z) in
    let dy : to_z w64 (of_z w64 c.in-Shift.dy) ≡ c.in-Shift.dy = grind (arith, to_z-of_z) in
    let h = c.shift_plan.ensures in
    record { plans = rw c.in-Shift.is (rw (dx, dy, c.as_slice.ensures) at h) }
