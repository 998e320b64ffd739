use Rattle.std.proofs.Common.{sym, ap}
use Rattle.answer_file.specs.Answers.{FileAnswers}
use Rattle.answer_file.proofs.reading.read_answers.Goals as goal

pub returns : goal.returns
returns c = record {
  answers = sym (ap (λ (file : FileAnswers). file.answers) c.in_ok-wrong.ensures);
  lines = sym (ap (λ (file : FileAnswers). file.lines) c.in_ok-wrong.ensures);
  wrong = sym (ap (λ (file : FileAnswers). file.wrong) c.in_ok-wrong.ensures);
}
