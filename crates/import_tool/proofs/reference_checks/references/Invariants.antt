use Rattle.std.proofs.Common.{◌≡◌, ◌++◌, drop}
use Rattle.tool_api.specs.Import.{references}
use Rattle.import_tool.proofs.reference_checks.references.Given as goal

abbrev pub invariant-loop-object : goal.invariant-loop-object
invariant-loop-object l = l.keys.items ++ references (drop l.object-index l.objects) ≡ l.initial.keys.items ++ references l.objects
