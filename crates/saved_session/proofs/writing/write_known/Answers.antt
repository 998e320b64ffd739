use Rattle.std.proofs.Common.{append_assoc, ◌∙◌}
use Rattle.std.proofs.lemmas.Result.{err_from_is_err_and}
use Rattle.osm_base.proofs.ExtendLaws.{extends_appended, extends_more}
use Rattle.saved_session.proofs.writing.write_known.Goals as goal

pub returns-in_err-write_key : goal.returns-in_err-write_key
returns-in_err-write_key c =
    let p = err_from_is_err_and c.from_residual-in_err-write_key.result c.from_residual-in_err-write_key.ensures.1 in
    rw p.1 (record { written = tt; kept = extends_more _ _ _ _ c.in_ok-extend_from_slice.ensures.items c.in_err-write_key.ensures.kept })

pub returns-in_err-push : goal.returns-in_err-push
returns-in_err-push c =
    let p = err_from_is_err_and c.from_residual-in_err-push.result c.from_residual-in_err-push.ensures.1 in
    rw p.1 (record { written = tt; kept = extends_more _ _ _ _ c.in_ok-extend_from_slice.ensures.items (extends_appended _ _ _ (c.in_err-push.ensures.items ∙ c.in_ok-write_key.ensures.written)) })

pub returns-in_err-write_words : goal.returns-in_err-write_words
returns-in_err-write_words c =
    let p = err_from_is_err_and c.from_residual-in_err-write_words.result c.from_residual-in_err-write_words.ensures.1 in
    rw p.1 (record { written = tt; kept = extends_more _ _ _ _ c.in_ok-extend_from_slice.ensures.items (extends_more _ _ _ _ c.in_ok-write_key.ensures.written (extends_more _ _ _ _ c.in_ok-push.ensures.items c.in_err-write_words.ensures.kept)) })

pub returns : goal.returns
returns c = record {
  written = rw (c.in_ok-write_words.ensures.written, c.in_ok-push.ensures.items, c.in_ok-write_key.ensures.written, c.in_ok-extend_from_slice.ensures.items) (simp append_assoc);
  kept = tt;
}
