use Rattle.std.proofs.Common.{◌≡◌, drop}
use Rattle.std.specs.Prelude.{filter, fold, Some}
use Rattle.opl_file.specs.Objects.{keys_of}
use Rattle.download.specs.Filter.{is_near, on_side}
use Rattle.download.specs.FilterCode.{with_key}
use Rattle.download.proofs.filtering.put_near.Given as goal

abbrev pub invariant-loop-object : goal.invariant-loop-object
invariant-loop-object l = fold with_key l.keys (keys_of (filter (on_side (is_near (Some l.area))) (drop l.object-index l.objects))) ≡ fold with_key l.fn.keys (keys_of (filter (on_side (is_near (Some l.area))) l.objects))
