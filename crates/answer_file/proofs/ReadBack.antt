-- The text of answers is read back.
use Rattle.std.proofs.Common.{◌≡◌, ℕ, ◌+◌, List, [], ◌∷◌, Some, None, refl, ap, ◌∙◌}
use Rattle.opl_file.specs.Cut.{lines_of}
use Rattle.opl_file.proofs.Cutting.{lines_of-line}
use Rattle.edit_script.specs.Script.{is_skipped}
use Rattle.placeholder.specs.declared.answer.Answer.{Answer}
use Rattle.answer_file.specs.Lines.{answer_of}
use Rattle.answer_file.specs.Answers.{before_others, answers_from, answers_of}
use Rattle.answer_file.specs.Text.{line_of, text_of}
use Rattle.answer_file.proofs.Lines.{IsTold, line_again, line_freed, line_no_lf, line_not_skipped}
use Rattle.answer_file.proofs.SoFar.{ended, line_from}

abbrev pub AreTold : List Answer → Type 0
AreTold [] = Unit {0}
AreTold (a ∷ more) = IsTold a × AreTold more

-- the numbers of lines, one for each answer
abbrev pub numbers_from : ℕ → List Answer → List ℕ
numbers_from line [] = []
numbers_from line (a ∷ more) = line ∷ numbers_from (line + 1) more

first_line : (a : Answer) (more : List Answer) → lines_of (text_of (a ∷ more)) ≡ line_of a ∷ lines_of (text_of more)
first_line a more = lines_of-line (text_of (a ∷ more)) (line_of a) (text_of more) (line_no_lf a) refl

all_from : (line : ℕ) (answers : List Answer) → AreTold answers → answers_from line (lines_of (text_of answers)) ≡ ended answers (numbers_from line answers) None
all_from line [] h = refl
all_from line (a ∷ more) h =
    let texts = lines_of (text_of more) in
    ap (answers_from line) (first_line a more)
    ∙ line_from line (line_of a) texts (Some a) (ap is_skipped (line_freed a) ∙ line_not_skipped a) (ap answer_of (line_freed a) ∙ line_again a h.0)
    ∙ ap (before_others line (Some a)) (all_from (line + 1) more h.1)

-- The text of answers answers them, one a line.
pub text_again : (answers : List Answer) → AreTold answers → answers_of (text_of answers) ≡ ended answers (numbers_from 1 answers) None
text_again answers h = all_from 1 answers h
