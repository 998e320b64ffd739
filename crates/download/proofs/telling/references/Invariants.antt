use Rattle.std.proofs.Common.{◌≡◌, ◌++◌, drop}
use Rattle.opl_file.specs.Objects.{objects_in}
use Rattle.download.specs.Tell.{references}
use Rattle.download.specs.TellCode.{keys_in}
use Rattle.download.proofs.telling.references.Given as goal

abbrev pub invariant-loop-batch : goal.invariant-loop-batch
invariant-loop-batch l = keys_in l.lists.items ++ references (objects_in (drop l.batch-index l.batches)) ≡ references (objects_in l.batches)
