use Rattle.opl_line.specs.Line.{line_of}
use Rattle.opl_line.proofs.Readable.{given_is_read}
use Rattle.opl_line.proofs.line.read_line.Goals as goal

pub returns-clause-writable : goal.returns-clause-writable
unfolding line_of
returns-clause-writable c = given_is_read c.args.mode c.args.line.now _ (rw c.freed.ensures at c.kind_of_line.ensures)
