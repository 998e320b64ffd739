use Rattle.std.proofs.Common.{◌∙◌}
use Rattle.std.proofs.lemmas.Result.{err_from_is_err_and}
use Rattle.osm_base.proofs.ExtendLaws.{extends_appended}
use Rattle.edit_steps.proofs.Texts.{two_texts}
use Rattle.edit_steps.proofs.searching.write_key_line.Goals as goal

pub returns-in_err-write_key : goal.returns-in_err-write_key
returns-in_err-write_key c =
    let p = err_from_is_err_and c.from_residual.result c.from_residual.ensures.1 in
    rw p.1 (record { written = tt; kept = c.in_err-write_key.ensures.kept })

pub returns-in_err-push : goal.returns-in_err-push
returns-in_err-push c =
    let p = err_from_is_err_and c.from_residual-in_err-push.result c.from_residual-in_err-push.ensures.1 in
    rw p.1 (record { written = tt; kept = extends_appended _ _ _ (c.in_err-push.ensures.items ∙ c.in_ok-write_key.ensures.written) })

pub returns : goal.returns
returns c = record { written = two_texts _ _ _ _ _ c.in_ok-write_key.ensures.written c.in_ok-push.ensures.items; kept = tt }
