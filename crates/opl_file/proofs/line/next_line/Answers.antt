use Rattle.opl_file.proofs.line.next_line.Goals as goal
use Rattle.opl_file.proofs.Cutting.{lines_of-line, lines_of-last}

pub returns-in-None-clause-lines : goal.returns-in-None-clause-lines
returns-in-None-clause-lines c = lines_of-last c.args.bytes.now _ c.first_line.ensures.front (rw c.in-None.is at c.first_line.ensures.parts) c.requires

pub returns-in-Some-clause-lines : goal.returns-in-Some-clause-lines
returns-in-Some-clause-lines c = lines_of-line c.args.bytes.now _ _ c.first_line.ensures.front (rw c.in-Some.is at c.first_line.ensures.parts)
