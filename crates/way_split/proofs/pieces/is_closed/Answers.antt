use Rattle.way_split.proofs.Cuts.{closed_got}
use Rattle.way_split.proofs.pieces.is_closed.Goals as goal

pub returns-then-refs-ge3 : goal.returns-then-refs-ge3
returns-then-refs-ge3 c = closed_got c.args.refs.now c.node_at.result c.node_at-then-refs-ge3.result _ c.if-refs-ge3.true c.node_at.ensures c.node_at-then-refs-ge3.ensures c.same_key.ensures.test
