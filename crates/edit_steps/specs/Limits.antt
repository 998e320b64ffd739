-- How much a session reads and holds.
use Rattle.command_line.specs.Words.{CommandLineValue}
use Rattle.edit_steps.specs.declared.limits.Limits.{Limits}

-- The limits that a command line asks for. A script has 16 MiB at most, whatever it asks for.
abbrev pub limits_of : CommandLineValue → Limits
limits_of line = record { script = 16777216; file = line.max_file; objects = line.max_objects }
