-- The forms of lines, by which the code looks up the first word of a line: for the proof of the code. What a line asks for is
-- told by `Grammar`.
use Rattle.std.specs.Prelude.{◌≡◌, ℕ, List, [], ◌∷◌, get_or, Option, Some, None}
use denote.Enum.Declared.{tag_of}
use Rattle.edit_script.specs.contracts.forms.Form.{the_type}
use Rattle.edit_script.specs.declared.forms.Form.{Form}
use Rattle.edit_script.specs.Grammar.{act_of, all_lines}

-- the first word of a form's lines: forms have the order of the lines of the grammar
abbrev pub form_word : Form → List ℕ
form_word form = (get_or all_lines (tag_of the_type form) ([], λ words. None)).0

-- the form is that of the lines that begin with the word, and there is none where no line begins so
abbrev pub IsFormOf : List ℕ → Option Form → Type 0
IsFormOf word (Some form) = form_word form ≡ word
IsFormOf word None = (words : List (List ℕ)) → act_of (word ∷ words) ≡ None
