use Rattle.std.proofs.Common.{◌≡◌, ◌++◌, ◌+◌, ◌≤◌, drop}
use Rattle.tool_api.specs.Import.{new_keys}
use Rattle.import_tool.proofs.new_keys.new_keys.Given as goal

abbrev pub invariant-loop-object : goal.invariant-loop-object
invariant-loop-object l =
    (l.keys ++ new_keys l.number (drop l.object-index l.objects) ≡ new_keys l.next l.objects)
    × (1 ≤ l.number) × (l.number ≤ l.next + l.object-index)
