use Rattle.opl_line.proofs.Told.{told_exactly}
use Rattle.opl_line.proofs.law.field_is_told.Goals as goal

pub returns : goal.returns
returns c = told_exactly
