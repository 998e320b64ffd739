use Rattle.std.proofs.Common.{◌≡◌, drop}
use Rattle.osm_table.specs.Table.{is_incomplete}
use Rattle.upload_order.specs.Kinds.{at_key}
use Rattle.upload_order.specs.Marked.{with_marked}
use Rattle.upload_order.proofs.backing.push_unknown.Given as goal

abbrev pub invariant-loop-of : goal.invariant-loop-of
invariant-loop-of l = with_marked (at_key l.ds is_incomplete) l.unknown.items (drop l.of-index l.refs) ≡ with_marked (at_key l.ds is_incomplete) l.initial.unknown.items l.refs
