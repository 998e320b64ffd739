use Rattle.osm_base.proofs.RisingKeys.{place_le}
use Rattle.osm_table.proofs.rising.place_of.Goals as goal

pub place_between-requires-else-is_between-clause-end : goal.place_between-requires-else-is_between-clause-end
place_between-requires-else-is_between-clause-end c = place_le c.args.key c.args.keys.now
