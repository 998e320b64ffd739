use Rattle.osm_base.proofs.RankedKeys.{ranked_is}
use Rattle.osm_base.proofs.order.ranked.Goals as goal

pub returns : goal.returns
returns c = ranked_is c.args.keys.items c.sort.new.self.items c.dedup.new.self.items c.sort.ensures.permutation c.in_ok-sort.ensures.sorted c.dedup.ensures.filtered
