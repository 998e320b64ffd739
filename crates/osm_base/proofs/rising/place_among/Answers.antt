use Rattle.osm_base.proofs.RisingKeys.{place_le}
use Rattle.osm_base.proofs.rising.place_among.Goals as goal

pub place_within-requires-clause-end : goal.place_within-requires-clause-end
place_within-requires-clause-end c = place_le c.args.key c.args.keys.now
