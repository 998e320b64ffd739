use Rattle.std.proofs.Common.{◌≡◌, drop}
use Rattle.tool_api.specs.Checks.{first_of}
use Rattle.tool_api.specs.Import.{file_reference_test}
use Rattle.import_tool.specs.Known.{has}
use Rattle.import_tool.proofs.reference_checks.first_refusal.Given as goal

abbrev pub invariant-loop-key : goal.invariant-loop-key
invariant-loop-key l = first_of (file_reference_test l.ds (has l.names.keys.entries)) (drop l.key-index l.keys) ≡ first_of (file_reference_test l.ds (has l.names.keys.entries)) l.keys
