use Rattle.std.proofs.Common.{◌≡◌, drop}
use Rattle.std.specs.Prelude.{filter, fold}
use Rattle.opl_file.specs.Objects.{keys_of}
use Rattle.download.specs.Filter.{among, is_related, on_side}
use Rattle.download.specs.FilterCode.{with_key}
use Rattle.download.proofs.filtering.put_relations.Given as goal

abbrev pub invariant-loop-object : goal.invariant-loop-object
invariant-loop-object l = fold with_key l.keys (keys_of (filter (on_side (is_related (among l.places))) (drop l.object-index l.objects))) ≡ fold with_key l.fn.keys (keys_of (filter (on_side (is_related (among l.places))) l.objects))
