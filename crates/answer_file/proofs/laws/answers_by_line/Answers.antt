use Rattle.answer_file.proofs.ByLine.{by_line}
use Rattle.answer_file.proofs.laws.answers_by_line.Goals as goal

pub returns : goal.returns
returns c = λ bytes. by_line bytes
