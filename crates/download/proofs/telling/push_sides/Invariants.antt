use Rattle.std.proofs.Common.{◌≡◌, ◌++◌, drop}
use Rattle.download.specs.Tell.{references}
use Rattle.download.specs.TellCode.{keys_in}
use Rattle.download.proofs.telling.push_sides.Given as goal

abbrev pub invariant-loop-object : goal.invariant-loop-object
invariant-loop-object l = keys_in l.lists.items ++ references (drop l.object-index l.objects) ≡ keys_in l.fn.lists.items ++ references l.objects
