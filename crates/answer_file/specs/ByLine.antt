-- What a file answers, said by its lines.
use Rattle.std.specs.Prelude.{◌≡◌, ℕ, ◌-◌, ◌<◌, ◌≤◌, false, List, [], length, slice_index, slice_index_or, slice_get, Some, None, IfSome, Contains}
use Rattle.opl_line.specs.Line.{freed}
use Rattle.opl_file.specs.Cut.{lines_of}
use Rattle.edit_script.specs.Script.{is_skipped}
use Rattle.answer_file.specs.Answers.{FileAnswers}
use Rattle.answer_file.specs.Lines.{answer_of}

-- the line of a number, counted from 1, without its CR
abbrev pub line_at : List ℕ → ℕ → List ℕ
line_at bytes number = freed (slice_index_or (lines_of bytes) (number - 1) [])

-- The answers of a file, by its lines.
pub record IsByLine (bytes : List ℕ) (file : FileAnswers) : Type 0 where
  -- each answer is the one that its line gives
  pub given : (i : ℕ) → i < length file.answers → answer_of (line_at bytes (slice_index file.lines i)) ≡ slice_get file.answers i
  -- in the order of their lines
  pub rising : (i j : ℕ) → i < j → j < length file.lines → slice_index file.lines i < slice_index file.lines j
  -- the wrong line isn't skipped, and gives none
  pub wrong : (line : ℕ) → file.wrong ≡ Some line → (is_skipped (line_at bytes line) ≡ false) × (answer_of (line_at bytes line) ≡ None)
  -- each line before it is skipped, or is one of an answer
  pub others : (line : ℕ) → 1 ≤ line → line ≤ length (lines_of bytes) → IfSome file.wrong (λ wrong. line < wrong) → is_skipped (line_at bytes line) ≡ false → Contains file.lines line
