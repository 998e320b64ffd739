-- What a reader gives once more bytes are fed.
use Rattle.std.specs.Prelude.{ℕ, ◌+◌, Bool, ◌||◌, nat_lt, if◌then◌else◌, List, ◌++◌, length, Result, Err, Option, Some, None}
use Rattle.opl_line.specs.declared.mode.Mode.{Mode}
use Rattle.opl_line.specs.declared.object.OplObject.{OplObject}
use Rattle.opl_file.specs.Cut.{cut, lines_of}
use Rattle.opl_file.specs.Reading.{objects_from, before_fault}
use Rattle.opl_file.specs.declared.fault.FileFault.{FileFault}
use Rattle.opl_file.specs.declared.fault.FileFault.TheVariants.{FileTooLong}
use Rattle.opl_file.specs.declared.lines.Lines.{Lines}
use Rattle.opl_file.specs.declared.reader.Reader.{Reader}

-- what the lines give from here on: the first bad line's fault, where there was one
abbrev pub goes_on : Mode → Option FileFault → ℕ → List OplObject → List ℕ → Result (List OplObject) FileFault
goes_on mode (Some fault) count objects bytes = Err fault
goes_on mode None count objects bytes = objects_from mode (count + 1) objects (lines_of bytes)

-- the objects of the finished lines from here on
abbrev pub lends_so_far : Mode → Option FileFault → ℕ → List OplObject → List ℕ → List OplObject
lends_so_far mode (Some fault) count objects bytes = objects
lends_so_far mode None count objects bytes = before_fault mode (count + 1) objects (cut bytes).ended

-- what the lines read as, if these bytes are still fed
unfoldable pub lines_read_on : Lines → List ℕ → Result (List OplObject) FileFault
lines_read_on lines more = goes_on lines.mode lines.fault lines.count lines.objects (lines.unfinished.items ++ more)

-- the objects of the finished lines before the first bad one, if these bytes are still fed
unfoldable pub lines_lend_on : Lines → List ℕ → List OplObject
lines_lend_on lines more = lends_so_far lines.mode lines.fault lines.count lines.objects (lines.unfinished.items ++ more)

-- what `finish` gives, if these bytes are still fed
unfoldable pub reads_on : Reader → List ℕ → Result (List OplObject) FileFault
reads_on reader more = if reader.too_long || nat_lt reader.room (length more) then Err FileTooLong else lines_read_on reader.lines more

-- What `so_far` lends, if these bytes are still fed; nothing is said of a file that is too long.
unfoldable pub lends_on : Reader → List ℕ → Option (List OplObject)
lends_on reader more = if reader.too_long || nat_lt reader.room (length more) then None else Some (lines_lend_on reader.lines more)

-- whether a piece found no memory
unfoldable pub has_failed : Reader → Bool
has_failed reader = reader.failed
