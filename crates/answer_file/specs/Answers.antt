-- What a file of answers makes of a table.
--
-- For example the first line of a file is `# chunk 1`, its second `create n-1 n50 v1` and its third `modify w5`. It has one
-- answer, of line 2, and the first line that gives none is 3: so line 3 is a wrong answer, unless the second is one.
use Rattle.std.specs.Prelude.{ℕ, ◌+◌, ◌-◌, if◌then◌else◌, List, [], ◌∷◌, slice_index, Option, Some, None, Result, Ok, Err}
use Rattle.opl_line.specs.Line.{freed}
use Rattle.opl_file.specs.Cut.{lines_of}
use Rattle.edit_script.specs.Script.{is_skipped}
use Rattle.osm_table.specs.Table.{TableValue}
use Rattle.dataset.specs.Patch.{PatchValue}
use Rattle.placeholder.specs.declared.answer.Answer.{Answer}
use Rattle.placeholder.specs.declared.fault.ConfirmFault.{ConfirmFault}
use Rattle.placeholder.specs.declared.fault.ConfirmFault.TheVariants.{WrongAnswer}
use Rattle.placeholder.specs.Confirm as placeholder
use Rattle.answer_file.specs.Lines.{answer_of}

-- The answers of a file before the first line that gives none, the number of each one's line, and the number of that line.
pub record FileAnswers : Type 0 where
  pub answers : List Answer
  pub lines : List ℕ
  pub wrong : Option ℕ

-- a line that gives an answer, or none, before what is behind it
abbrev pub before_others : ℕ → Option Answer → FileAnswers → FileAnswers
before_others line None others = record { answers = []; lines = []; wrong = Some line }
before_others line (Some answer) others = record { answers = answer ∷ others.answers; lines = line ∷ others.lines; wrong = others.wrong }

-- what these lines answer, of which the first has that number
abbrev pub answers_from : ℕ → List (List ℕ) → FileAnswers
answers_from line [] = record { answers = []; lines = []; wrong = None }
answers_from line (text ∷ texts) =
    if is_skipped (freed text) then answers_from (line + 1) texts
    else before_others line (answer_of (freed text)) (answers_from (line + 1) texts)

-- What a file answers.
abbrev pub answers_of : List ℕ → FileAnswers
answers_of bytes = answers_from 1 (lines_of bytes)

-- a fault, with the line of an answer for its number
abbrev pub at_line : List ℕ → ConfirmFault → ConfirmFault
at_line lines (WrongAnswer number) = WrongAnswer (slice_index lines (number - 1))
at_line lines fault = fault

-- a line that gives no answer is a wrong one
abbrev pub unless_wrong : Option ℕ → PatchValue → Result PatchValue ConfirmFault
unless_wrong None patch = Ok patch
unless_wrong (Some line) patch = Err (WrongAnswer line)

-- what the answers make, and then the line that gives none
abbrev pub by_lines : FileAnswers → Result PatchValue ConfirmFault → Result PatchValue ConfirmFault
by_lines file (Ok patch) = unless_wrong file.wrong patch
by_lines file (Err fault) = Err (at_line file.lines fault)

-- The difference to the table that a file's answers confirm, or why there is none.
abbrev pub confirm_text : TableValue → List ℕ → Result PatchValue ConfirmFault
confirm_text t bytes = by_lines (answers_of bytes) (placeholder.confirm t (answers_of bytes).answers)
