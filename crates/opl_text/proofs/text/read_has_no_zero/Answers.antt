use Rattle.opl_text.proofs.Read as read
use Rattle.opl_text.proofs.text.read_has_no_zero.Goals as goal

pub returns : goal.returns
returns c = read.read_has_no_zero
