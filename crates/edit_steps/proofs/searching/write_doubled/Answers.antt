use Rattle.std.proofs.Common.{◌∙◌}
use Rattle.std.proofs.lemmas.Result.{err_from_is_err_and, on_err_weaker}
use Rattle.osm_base.proofs.ExtendLaws.{extends_appended, extends_more}
use Rattle.edit_steps.proofs.Texts.{last_of_four}
use Rattle.edit_steps.proofs.searching.write_doubled.Goals as goal

pub returns-in_err-write_key : goal.returns-in_err-write_key
returns-in_err-write_key c =
    let p = err_from_is_err_and c.from_residual-in_err-write_key.result c.from_residual-in_err-write_key.ensures.1 in
    rw p.1 (record { written = tt; kept = extends_more _ _ _ _ c.in_ok-extend_from_slice.ensures.items c.in_err-write_key.ensures.kept })

pub returns-in_err-push : goal.returns-in_err-push
returns-in_err-push c =
    let p = err_from_is_err_and c.from_residual-in_err-push.result c.from_residual-in_err-push.ensures.1 in
    rw p.1 (record { written = tt; kept = extends_more _ _ _ _ c.in_ok-extend_from_slice.ensures.items (extends_appended _ _ _ (c.in_err-push.ensures.items ∙ c.in_ok-write_key.ensures.written)) })

pub returns : goal.returns
returns c =
    let name = c.in_ok-extend_from_slice.ensures.items in
    let key = c.in_ok-write_key.ensures.written in
    let blank = c.in_ok-push.ensures.items in
    record {
      written = last_of_four c.write_key_line.result _ _ _ _ _ _ _ _ _ name key blank c.write_key_line.ensures.written;
      kept = on_err_weaker c.write_key_line.result (λ h. extends_more _ _ _ _ name (extends_more _ _ _ _ key (extends_more _ _ _ _ blank h))) c.write_key_line.ensures.kept;
    }
