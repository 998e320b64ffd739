-- The lines of a file.
--
-- The law `lines_are_told` says that `lines_of` gives them, so how a file is cut needn't be known.
use Rattle.std.specs.Prelude.{ℕ, ◌==◌, if◌then◌else◌, List, [], ◌∷◌}
use Rattle.opl_line.specs.Cut.{onto_first}

-- An LF ends a line; bytes behind the last LF are one too.
abbrev pub told_lines : List ℕ → List (List ℕ)
told_lines [] = []
told_lines (byte ∷ bytes) = if byte == 10 then [] ∷ told_lines bytes else onto_first byte (told_lines bytes)
