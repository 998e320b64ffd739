use Rattle.std.proofs.Common.{◌≡◌, drop}
use Rattle.std.specs.Prelude.{filter, fold}
use Rattle.download.specs.Tell.{references}
use Rattle.download.specs.Filter.{on_side}
use Rattle.download.specs.FilterCode.{with_key, is_way}
use Rattle.download.proofs.filtering.put_of_ways.Given as goal

abbrev pub invariant-loop-object : goal.invariant-loop-object
invariant-loop-object l = fold with_key l.keys (references (filter (on_side is_way) (drop l.object-index l.objects))) ≡ fold with_key l.fn.keys (references (filter (on_side is_way) l.objects))
