-- The files that the steps of a script begin.
--
-- For example `download f` begins f, and `tag n1 Ta=1` none; nor does `download f` in a group that was given up.
use Rattle.std.specs.Prelude.{ℕ, List, Option, None, Some, if◌then◌else◌}
use Rattle.edit_script.specs.declared.step.Act.{Act}
use Rattle.edit_script.specs.declared.step.Act.TheVariants.{File, Serve}
use Rattle.edit_history.specs.declared.counts.Group.{Group}
use Rattle.edit_steps.specs.Groups.{is_given_up}

-- the file that an act names
abbrev pub file_of : Act → Option (List ℕ)
file_of (File name purpose) = Some name
file_of (Serve name) = Some name
file_of act = None

-- The file that an act begins in this group.
abbrev pub begins_in : Group → Act → Option (List ℕ)
begins_in group act = if is_given_up group then None else file_of act
