-- What the program says of how a session ended.
--
-- For example `editor: bad script line 3` where that line is outside the grammar, and nothing where the script ran to its end.
use Rattle.std.specs.Prelude.{◌≡◌, List, ℕ, [], ◌∷◌, ◌++◌, codes}
use Rattle.edit_session.specs.declared.status.Status.{Status}
use Rattle.edit_session.specs.declared.status.Status.TheVariants.{Done, BadWords, Memory}
use Rattle.edit_session.specs.StatusText.{status_text}

-- the line on the error stream; none where all went well
abbrev pub told_text : Status → List ℕ
told_text Done = []
told_text status = codes "editor: " ++ (status_text status ++ 10 ∷ [])

-- how a session ends whose words can't be had: for want of memory, or since a word is no text
abbrev pub SaysWhy : (no_memory : Type 0) → Status → Type 0
SaysWhy no_memory status = (no_memory → status ≡ Memory) × ((no_memory → ⊥) → status ≡ BadWords)
