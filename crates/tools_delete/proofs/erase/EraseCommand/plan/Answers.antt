use Rattle.std.proofs.Common.{sym}
use Rattle.tools_delete.proofs.erase.EraseCommand.plan.Goals as goal

pub returns : goal.returns
returns c = record { plans = rw (c.in-Erase.is, sym c.as_slice.ensures) c.erase_plan.ensures }
