use Rattle.std.proofs.Common.{◌+◌, drop}
use Rattle.import_tool.specs.Known.{Names}
use Rattle.import_tool.proofs.new_keys.NewKeys.new.Given as goal

abbrev pub invariant-loop-i : goal.invariant-loop-i
invariant-loop-i l = Names (l.next + l.i) (drop l.i l.objects) l.keys.entries
