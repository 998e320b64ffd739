use Rattle.std.proofs.Common.{◌∙◌, sym}
use Rattle.osm_base.proofs.Halving.{stands_there, stands_nowhere}
use Rattle.osm_table.proofs.rising.place_between.Goals as goal

pub returns-then-stands_at : goal.returns-then-stands_at
returns-then-stands_at c = stands_there c.args.key c.args.keys.now c.place_within-place.result (sym c.stands_at.ensures ∙ c.if-stands_at.true)

pub returns-else-stands_at : goal.returns-else-stands_at
returns-else-stands_at c =
    stands_nowhere c.args.key c.args.keys.now c.place_within-place.result c.requires.rises c.place_within-place.ensures (sym c.stands_at.ensures ∙ c.if-stands_at.false)
