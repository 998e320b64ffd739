-- What reading a whole file of a shelf gives.
use Rattle.std.specs.Prelude.{ℕ, nat_le, Bool, true, false, List, length, Option, None, Some, if◌then◌else◌}
use Rattle.edit_steps.specs.declared.files.Fetched.{Fetched}
use Rattle.edit_steps.specs.declared.files.Fetched.TheVariants.{Missing, TooLong, Whole}

-- what a file is read as, within a limit
abbrev pub reading : ℕ → Option (List ℕ) → Fetched
reading limit None = Missing
reading limit (Some bytes) = if nat_le (length bytes) limit then Whole bytes else TooLong

-- whether the shelf has the file
abbrev pub is_there : Fetched → Bool
is_there Missing = false
is_there TooLong = true
is_there (Whole bytes) = true
