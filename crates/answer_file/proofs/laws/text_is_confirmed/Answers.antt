use Rattle.answer_file.proofs.Resumes.{text_confirms}
use Rattle.answer_file.proofs.laws.text_is_confirmed.Goals as goal

pub returns : goal.returns
returns c = λ w t cs ds ids h. text_confirms w t cs ds ids h
