use Rattle.opl_file.proofs.LinesTold.{told_exactly}
use Rattle.opl_file.proofs.law.lines_are_told.Goals as goal

pub returns : goal.returns
returns c = told_exactly
