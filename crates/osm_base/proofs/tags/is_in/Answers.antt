use Rattle.std.proofs.Common.{sym}
use Rattle.osm_base.proofs.TagPlaces.{has_tag_stands}
use Rattle.osm_base.proofs.tags.is_in.Goals as goal
use Rattle.osm_base.proofs.TagLaws.{in_order}

pub returns : goal.returns
returns c =
    has_tag_stands c.args.key.now c.args.items.now c.place-at.result c.stands_at.result (in_order c.args.items.now c.requires) c.place-at.ensures (sym c.stands_at.ensures)
