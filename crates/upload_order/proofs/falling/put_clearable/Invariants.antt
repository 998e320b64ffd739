use Rattle.std.proofs.Common.{◌≡◌, drop}
use Rattle.std.specs.List.{list_any}
use Rattle.upload_order.specs.Kinds.{held_refs}
use Rattle.upload_order.specs.Counts.{has, put_where}
use Rattle.upload_order.proofs.falling.put_clearable.Given as goal

abbrev pub invariant-loop-key : goal.invariant-loop-key
invariant-loop-key l = put_where (λ k. list_any (has l.waiting) (held_refs l.ds k)) l.clearable (drop l.key-index l.keys) ≡ put_where (λ k. list_any (has l.waiting) (held_refs l.ds k)) l.fn.clearable l.keys
