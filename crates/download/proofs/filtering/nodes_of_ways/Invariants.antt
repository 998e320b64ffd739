use Rattle.std.proofs.Common.{◌≡◌, drop}
use Rattle.std.specs.Prelude.{filter, fold}
use Rattle.download.specs.Tell.{references}
use Rattle.opl_file.specs.Objects.{objects_in}
use Rattle.download.specs.Filter.{on_side}
use Rattle.download.specs.FilterCode.{with_key, key_set, is_way}
use Rattle.download.proofs.filtering.nodes_of_ways.Given as goal

abbrev pub invariant-loop-batch : goal.invariant-loop-batch
invariant-loop-batch l = fold with_key l.keys (references (filter (on_side is_way) (objects_in (drop l.batch-index l.batches)))) ≡ key_set (references (filter (on_side is_way) (objects_in l.batches)))
