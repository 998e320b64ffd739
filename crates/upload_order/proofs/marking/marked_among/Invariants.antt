use Rattle.std.proofs.Common.{◌≡◌, [], drop}
use Rattle.osm_table.specs.Table.{is_changed}
use Rattle.upload_order.specs.Kinds.{at_key}
use Rattle.upload_order.specs.Marked.{with_marked}
use Rattle.upload_order.specs.Refused.{is_open}
use Rattle.upload_order.proofs.marking.marked_among.Given as goal

abbrev pub invariant-loop-key : goal.invariant-loop-key
invariant-loop-key l =
    (with_marked (at_key l.ds is_open) l.open.items (drop l.key-index l.keys) ≡ with_marked (at_key l.ds is_open) [] l.keys)
    × (with_marked (at_key l.ds is_changed) l.changed.items (drop l.key-index l.keys) ≡ with_marked (at_key l.ds is_changed) [] l.keys)
