-- The grammar of scripts.
--
-- For example the lines `# a way`, `way T Nn1,n2` and `undo 0` are skipped, a step, and outside the grammar:
-- the script that they are has no steps, and its first bad line is 3.
use Rattle.std.specs.Prelude.{ℕ, ◌+◌, ◌-◌, List, [], ◌∷◌, length, Bool, ◌||◌, ◌==◌, Option, None, Some, Result, Ok, Err, slice_index, if◌then◌else◌}
use Rattle.std.specs.List.{list_all}
use Rattle.std.specs.Option.{option_map}
use Rattle.opl_line.specs.Line.{is_blank, freed}
use Rattle.opl_file.specs.Cut.{lines_of}
use Rattle.map_search.specs.Words.{words_of}
use Rattle.edit_script.specs.declared.line.ScriptLine.{ScriptLine}
use Rattle.edit_script.specs.declared.line.ScriptLine.TheVariants.{Skipped, Asks}
use Rattle.edit_script.specs.declared.place.Place.{Place}
use Rattle.edit_script.specs.declared.place.Place.TheVariants.{Start}
use Rattle.edit_script.specs.declared.step.Act.{Act}
use Rattle.edit_script.specs.declared.step.Step.{Step}
use Rattle.edit_script.specs.Grammar.{act_of}
use Rattle.edit_script.specs.Place.{may_stand_at, place_after}

-- nothing but blanks, or a comment
abbrev pub is_skipped : List ℕ → Bool
is_skipped line = list_all is_blank line || slice_index line 0 == 35

-- a blank before the first word or behind the last
abbrev pub has_outer_blank : List ℕ → Bool
has_outer_blank line = is_blank (slice_index line 0) || is_blank (slice_index line (length line - 1))

-- what the line without its CR is
unfoldable pub kind_of_line : List ℕ → Option ScriptLine
kind_of_line line =
    if is_skipped line then Some Skipped
    else (if has_outer_blank line then None
    else option_map Asks (act_of (words_of line)))

-- What a line is by itself: skipped, or something to do; none where it is outside the grammar.
abbrev pub line_of : List ℕ → Option ScriptLine
line_of line = kind_of_line (freed line)

abbrev pub onto_steps : Step → Result (List Step) ℕ → Result (List Step) ℕ
onto_steps step (Ok steps) = Ok (step ∷ steps)
onto_steps step (Err line) = Err line

-- an act that may stand there, and the steps behind it
abbrev pub after_act : Place → ℕ → Act → (Place → Result (List Step) ℕ) → Result (List Step) ℕ
after_act place line act rest = if may_stand_at place act then onto_steps (record { line = line; act = act }) (rest (place_after place act)) else Err line

-- a line, and the steps of those behind it
abbrev pub after_line : Place → ℕ → Option ScriptLine → (Place → Result (List Step) ℕ) → Result (List Step) ℕ
after_line place line None rest = Err line
after_line place line (Some Skipped) rest = rest place
after_line place line (Some (Asks act)) rest = after_act place line act rest

-- the steps of these lines, of which the first has that number and stands there
abbrev pub steps_from : Place → ℕ → List (List ℕ) → Result (List Step) ℕ
steps_from place line [] = Ok []
steps_from place line (text ∷ texts) = after_line place line (line_of text) (λ behind. steps_from behind (line + 1) texts)

-- The steps of a script, or the number of its first line outside the grammar.
abbrev pub steps_of : List ℕ → Result (List Step) ℕ
steps_of bytes = steps_from Start 1 (lines_of bytes)
