-- What the words of the command line ask for, by the definition that `clap` gives of a simple command.
--
-- `editor --max-objects=5 town.script` asks for the script `town.script` with at most 5 objects, and files of at most
-- 268,435,456 bytes. `editor` alone, `editor a b` and `editor --help` are refused.
use Rattle.std.specs.Prelude.{ℕ, List, [], Option, None, Some, codes, unwrap_or, option_and_then, if◌then◌else◌, true, false}
use Rattle.std.specs.Str.Parse.{digits_value, without_leading_plus}
use Rattle.clap.specs.Simple.{on_top}
use Rattle.clap.specs.ValueTests.{accepts}
use Rattle.clap.specs.Walk.{is_empty}
use Rattle.clap.specs.Words.{App, Row, Rule, Text, fault_of, first_of, matches_of, new_app, new_rule, one_of, with_rule}
use Rattle.clap.specs.declared.builder.value_parser.ValueParser.TheVariants.{Unsigned}
use Rattle.command_line.specs.declared.CommandLine.{CommandLine}

-- the script's name, the most objects of a session and the most bytes of a file
pub record CommandLineValue : Type 0 where
  pub script : Text
  pub max_objects : ℕ
  pub max_file : ℕ

abbrev pub value_of : CommandLine → CommandLineValue
value_of line = record { script = line.script.now; max_objects = line.max_objects; max_file = line.max_file }

-- `--NAME N`, where N is from 1 to `most`
abbrev pub limit_rule : Text → ℕ → Rule
limit_rule name most = record (new_rule name) { long = Some name; parser = Some (Unsigned 1 most) }

-- a word that has to be there
abbrev pub required_rule : Text → Rule
required_rule name = record (new_rule name) { required = true }

-- a command that knows neither `--help` nor `--version`
abbrev pub bare_app : Text → App
bare_app name = on_top (λ s. record s { disable_help_flag = true; disable_version_flag = true }) (new_app name)

abbrev pub objects_rule : Rule
objects_rule = limit_rule (codes "max-objects") 5000000

abbrev pub file_rule : Rule
file_rule = limit_rule (codes "max-file") 1073741824

abbrev pub script_rule : Rule
script_rule = required_rule (codes "script")

-- `editor [--max-objects N] [--max-file N] SCRIPT`
abbrev pub editor : App
editor = with_rule (with_rule (with_rule (bare_app (codes "editor")) objects_rule) file_rule) script_rule

-- the number that a text writes as a `u64`
abbrev pub number_of : Text → Option ℕ
number_of text = if accepts false (Unsigned 0 18446744073709551615) text then Some (digits_value 10 (without_leading_plus text)) else None

-- the number that was found for an option, or the default
abbrev pub limit_of : Rule → ℕ → List Row → ℕ
limit_of option default found = unwrap_or (option_and_then number_of (one_of option.id found)) default

abbrev pub line_of : List Row → CommandLineValue
line_of found = record {
  script = unwrap_or (first_of script_rule.id found) [];
  max_objects = limit_of objects_rule 2000000 found;
  max_file = limit_of file_rule 268435456 found;
}

-- what the words ask for, where clap finds no fault in them
unfoldable pub command_of : List Text → Option CommandLineValue
command_of words = if is_empty (fault_of editor words) then Some (line_of (matches_of editor words)) else None
