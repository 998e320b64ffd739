use Rattle.std.proofs.Common.{◌≡◌, drop}
use Rattle.std.specs.HashSet.{contains}
use Rattle.std.specs.List.{fold, list_any}
use Rattle.osm_base.specs.KeyEq.{eq}
use Rattle.osm_base.specs.declared.key.Key.{Key}
use Rattle.opl_file.specs.Known.{finds}
use Rattle.opl_file.specs.Objects.{keys_of, objects_in}
use Rattle.opl_file.proofs.known.hashed.Given as goal

abbrev pub invariant-loop-batch : goal.invariant-loop-batch
invariant-loop-batch l = (k : Key) → fold (finds k) (contains eq l.keys k) (keys_of (objects_in (drop l.batch-index l.batch-items))) ≡ list_any (eq k) (keys_of l.objects)
