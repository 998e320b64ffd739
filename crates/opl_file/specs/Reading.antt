-- What a file of map objects reads as.
use Rattle.std.specs.Prelude.{ℕ, ◌+◌, nat_lt, if◌then◌else◌, List, [], ◌∷◌, ◌++◌, length, Result, Ok, Err, Option, Some, None}
use Rattle.opl_line.specs.Line.{line_of}
use Rattle.opl_line.specs.declared.mode.Mode.{Mode}
use Rattle.opl_line.specs.declared.fault.LineFault.{LineFault}
use Rattle.opl_line.specs.declared.object.OplObject.{OplObject}
use Rattle.opl_line.specs.declared.object.LineKind.{LineKind}
use Rattle.opl_line.specs.declared.object.LineKind.TheVariants.{Skipped, Object}
use Rattle.opl_file.specs.Cut.{cut, lines_of}
use Rattle.opl_file.specs.Objects.{has_key}
use Rattle.opl_file.specs.declared.fault.FileFault.{FileFault}
use Rattle.opl_file.specs.declared.fault.FileFault.TheVariants.{Line, Twice, LineTooLong, FileTooLong}

-- the objects once a line is there that reads so
abbrev pub with_line : ℕ → List OplObject → Result LineKind LineFault → Result (List OplObject) FileFault
with_line number objects (Err fault) = Err (Line number fault)
with_line number objects (Ok Skipped) = Ok objects
with_line number objects (Ok (Object object)) = if has_key objects object.key then Err (Twice number) else Ok (objects ++ object ∷ [])

-- The objects once the line of that number is there, or its fault. A line has at most
-- 16,777,216 bytes, a CR at its end counted, the LF not.
unfoldable pub taken : Mode → ℕ → List OplObject → List ℕ → Result (List OplObject) FileFault
taken mode number objects line = if nat_lt 16777216 (length line) then Err (LineTooLong number) else with_line number objects (line_of mode line)

-- a result handed on: the fault, or what comes of the objects
abbrev pub and_then : Result (List OplObject) FileFault → (List OplObject → Result (List OplObject) FileFault) → Result (List OplObject) FileFault
and_then (Err fault) go_on = Err fault
and_then (Ok objects) go_on = go_on objects

-- the objects with those of the lines, numbered on, or the fault of the first bad line
abbrev pub objects_from : Mode → ℕ → List OplObject → List (List ℕ) → Result (List OplObject) FileFault
objects_from mode number objects [] = Ok objects
objects_from mode number objects (line ∷ lines) = and_then (taken mode number objects line) (λ more. objects_from mode (number + 1) more lines)

-- The objects of a file in order, or its fault. A file of more than `limit` bytes is too long;
-- else its lines are read one after the other, numbered from 1, and the first bad one decides.
unfoldable pub objects_of : Mode → ℕ → List ℕ → Result (List OplObject) FileFault
objects_of mode limit bytes = if nat_lt limit (length bytes) then Err FileTooLong else objects_from mode 1 [] (lines_of bytes)

-- the objects, or those before where there is a fault
abbrev pub or_before : List OplObject → Result (List OplObject) FileFault → (List OplObject → List OplObject) → List OplObject
or_before objects (Err fault) go_on = objects
or_before objects (Ok more) go_on = go_on more

-- the objects with those of the lines before the first bad one
abbrev pub before_fault : Mode → ℕ → List OplObject → List (List ℕ) → List OplObject
before_fault mode number objects [] = objects
before_fault mode number objects (line ∷ lines) = or_before objects (taken mode number objects line) (λ more. before_fault mode (number + 1) more lines)

-- the objects of the lines whose LF is there and that stand before the first bad one; nothing is
-- said of a file that is too long
unfoldable pub finished_of : Mode → ℕ → List ℕ → Option (List OplObject)
finished_of mode limit bytes = if nat_lt limit (length bytes) then None else Some (before_fault mode 1 [] (cut bytes).ended)
