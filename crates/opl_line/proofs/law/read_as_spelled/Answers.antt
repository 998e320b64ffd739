use Rattle.opl_line.proofs.Back.{has_meaning, meaning_is_read}
use Rattle.opl_line.proofs.Readable.{read_kind}
use Rattle.opl_line.proofs.law.read_as_spelled.Goals as goal

pub returns-clause-some : goal.returns-clause-some
returns-clause-some c = has_meaning

pub returns-clause-no_other : goal.returns-clause-no_other
returns-clause-no_other c = meaning_is_read

pub returns-clause-writable : goal.returns-clause-writable
returns-clause-writable c = read_kind
