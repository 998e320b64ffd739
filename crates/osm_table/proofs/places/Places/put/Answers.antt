use Rattle.std.proofs.Common.{◌∙◌, sym}
use Rattle.std.specs.Bool.{passes}
use Rattle.osm_table.proofs.OrderLaws.{if_err, last_new}
use Rattle.osm_table.proofs.places.Places.put.Goals as goal

pub returns-in_err-put_post-in-Rising-clause-absent : goal.returns-in_err-put_post-in-Rising-clause-absent
returns-in_err-put_post-in-Rising-clause-absent c = if_err c.from_residual.result (last_new c.args.keys.now c.args.key (passes _ (sym c.is_behind.ensures ∙ c.if-is_behind.true)))

pub returns-then-is_behind-clause-ok : goal.returns-then-is_behind-clause-ok
returns-then-is_behind-clause-ok c =
    let longer = passes _ (sym c.is_behind.ensures ∙ c.if-is_behind.true) in
    (last_new c.args.keys.now c.args.key longer, longer)
