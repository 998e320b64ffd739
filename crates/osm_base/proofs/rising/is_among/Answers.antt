use Rattle.std.proofs.Common.{◌∙◌}
use Rattle.osm_base.proofs.Halving.{stands_is}
use Rattle.osm_base.proofs.rising.is_among.Goals as goal

pub returns : goal.returns
returns c = c.stands_at.ensures ∙ stands_is c.args.key c.args.keys.now c.place_among.result c.requires (cc)
