-- What is answered of what was read.
use Rattle.std.specs.Prelude.{◌≡◌, ℕ, List, [], Result, Err}
use Rattle.opl_file.specs.declared.unread.Unread.{Unread}
use Rattle.opl_file.specs.declared.unread.Unread.TheVariants as unread
pub use Rattle.opl_file.specs.Unread.{Gives, IsRefused}
use Rattle.edit_script.specs.declared.fault.ScriptFault.{ScriptFault}
use Rattle.edit_script.specs.declared.fault.ScriptFault.TheVariants as faults
use Rattle.edit_script.specs.declared.step.Step.{Step}

-- no word is left, unless memory ran out
abbrev pub IsOver : List (List ℕ) → Unread → Type 0
IsOver words unread.Outside = words ≡ []
IsOver words unread.Memory = Unit {0}

-- the fault names the first bad line, or memory ran out
abbrev pub RefusesScript : Result (List Step) ℕ → ScriptFault → Type 0
RefusesScript steps (faults.BadLine line) = steps ≡ Err line
RefusesScript steps faults.Memory = Unit {0}
