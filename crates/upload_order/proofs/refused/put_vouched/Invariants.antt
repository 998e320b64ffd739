use Rattle.std.proofs.Common.{◌≡◌, drop}
use Rattle.upload_order.specs.Refused.{vouched_among}
use Rattle.upload_order.proofs.refused.put_vouched.Given as goal

abbrev pub invariant-loop-key : goal.invariant-loop-key
invariant-loop-key l = vouched_among l.ds l.vouched (drop l.key-index l.keys) ≡ vouched_among l.ds l.fn.vouched l.keys
