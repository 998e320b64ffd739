use Rattle.std.proofs.Common.{◌≡◌, drop, length}
use Rattle.osm_table.specs.InOrder.{insert_all}
use Rattle.osm_base.specs.KeyEq.{eq}
use Rattle.osm_table.proofs.keyed_entries.put_all.Given as goal

abbrev pub invariant-loop-item : goal.invariant-loop-item
invariant-loop-item l = insert_all eq l.entries (drop (length l.yielded) l.fn.list.items) ≡ insert_all eq l.fn.entries l.fn.list.items
