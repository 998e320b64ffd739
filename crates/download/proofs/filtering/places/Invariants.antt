use Rattle.std.proofs.Common.{◌≡◌, drop}
use Rattle.std.specs.Prelude.{filter, fold}
use Rattle.opl_file.specs.Objects.{keys_of, objects_in}
use Rattle.download.specs.Filter.{on_side}
use Rattle.download.specs.FilterCode.{with_key, key_set, is_place}
use Rattle.download.proofs.filtering.places.Given as goal

abbrev pub invariant-loop-batch : goal.invariant-loop-batch
invariant-loop-batch l = fold with_key l.keys (keys_of (filter (on_side is_place) (objects_in (drop l.batch-index l.batches)))) ≡ key_set (keys_of (filter (on_side is_place) (objects_in l.batches)))
