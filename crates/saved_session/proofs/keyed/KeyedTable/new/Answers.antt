use Rattle.osm_base.proofs.ByRank.{rises_entries}
use Rattle.saved_session.proofs.keyed.KeyedTable.new.Goals as goal

pub of_list-requires : goal.of_list-requires
of_list-requires c = rises_entries c.args.saved.entries.items c.requires
