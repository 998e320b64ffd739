use Rattle.std.proofs.Common.{◌≡◌, drop}
use Rattle.std.specs.Prelude.{filter, fold, Some}
use Rattle.opl_file.specs.Objects.{keys_of, objects_in}
use Rattle.download.specs.Filter.{is_near, on_side}
use Rattle.download.specs.FilterCode.{with_key, key_set}
use Rattle.download.proofs.filtering.nodes_in.Given as goal

abbrev pub invariant-loop-batch : goal.invariant-loop-batch
invariant-loop-batch l = fold with_key l.keys (keys_of (filter (on_side (is_near (Some l.area))) (objects_in (drop l.batch-index l.batches)))) ≡ key_set (keys_of (filter (on_side (is_near (Some l.area))) (objects_in l.batches)))
