use Rattle.std.proofs.Common.{◌≡◌, drop}
use Rattle.std.specs.HashSet.{contains}
use Rattle.std.specs.List.{fold}
use Rattle.osm_base.specs.KeyEq.{eq}
use Rattle.osm_base.specs.declared.key.Key.{Key}
use Rattle.opl_file.specs.Known.{finds}
use Rattle.opl_file.specs.Objects.{keys_of}
use Rattle.opl_file.proofs.known.hash_all.Given as goal

abbrev pub invariant-loop-object : goal.invariant-loop-object
invariant-loop-object l = (k : Key) → fold (finds k) (contains eq l.keys k) (keys_of (drop l.object-index l.objects)) ≡ fold (finds k) (contains eq l.fn.keys k) (keys_of l.objects)
