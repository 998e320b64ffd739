use Rattle.std.proofs.Common.{◌<◌, ◌∙◌, arith, length}
use Rattle.osm_table.proofs.Standing.{behind_is}
use Rattle.osm_table.proofs.rising.is_behind.Goals as goal

pub returns-else-is_empty : goal.returns-else-is_empty
returns-else-is_empty c =
    let some : 0 < length c.args.keys.now = grind (arith, c.is_empty.ensures, c.if-is_empty.false) in
    c.is_before.ensures ∙ behind_is c.args.keys.now c.args.key _ c.requires some
