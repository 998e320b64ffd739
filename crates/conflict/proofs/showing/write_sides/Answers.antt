use Rattle.std.proofs.lemmas.Result.{err_from_is_err_and}
use Rattle.osm_base.proofs.ExtendLaws.{extends_more}
use Rattle.conflict.proofs.showing.write_sides.Goals as goal

pub returns-in_err-write_side : goal.returns-in_err-write_side
returns-in_err-write_side c =
    let p = err_from_is_err_and c.from_residual-in_err-write_side.result c.from_residual-in_err-write_side.ensures.1 in
    rw p.1 (record { written = tt; kept = c.in_err-write_side.ensures.kept })

pub returns-in_err-write_side-2 : goal.returns-in_err-write_side-2
returns-in_err-write_side-2 c =
    let p = err_from_is_err_and c.from_residual-in_err-write_side-2.result c.from_residual-in_err-write_side-2.ensures.1 in
    rw p.1 (record { written = tt; kept = extends_more _ _ _ _ c.in_ok-write_side.ensures.written c.in_err-write_side-2.ensures.kept })
