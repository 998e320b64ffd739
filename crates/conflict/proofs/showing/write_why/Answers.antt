use Rattle.std.proofs.Common.{append_assoc, ◌∙◌}
use Rattle.std.proofs.lemmas.Result.{err_from_is_err_and}
use Rattle.osm_base.proofs.ExtendLaws.{extends_appended, extends_more}
use Rattle.conflict.proofs.showing.write_why.Goals as goal

pub returns-in_err-write_key : goal.returns-in_err-write_key
returns-in_err-write_key c =
    let p = err_from_is_err_and c.from_residual-in_err-write_key.result c.from_residual-in_err-write_key.ensures.1 in
    rw p.1 (record { written = tt; kept = extends_more _ _ _ _ c.in_ok-extend_from_slice.ensures.items c.in_err-write_key.ensures.kept })

pub returns-in_err-push : goal.returns-in_err-push
returns-in_err-push c =
    let p = err_from_is_err_and c.from_residual-in_err-push.result c.from_residual-in_err-push.ensures.1 in
    rw p.1 (record { written = tt; kept = extends_more _ _ _ _ c.in_ok-extend_from_slice.ensures.items (extends_appended _ _ _ (c.in_err-push.ensures.items ∙ c.in_ok-write_key.ensures.written)) })

pub returns-in_err-push-2 : goal.returns-in_err-push-2
returns-in_err-push-2 c =
    let p = err_from_is_err_and c.from_residual-in_err-push-2.result c.from_residual-in_err-push-2.ensures.1 in
    rw p.1 (record {
      written = tt;
      kept = extends_more _ _ _ _ c.in_ok-extend_from_slice.ensures.items (extends_more _ _ _ _ c.in_ok-write_key.ensures.written (extends_more _ _ _ _ c.in_ok-push.ensures.items (extends_appended _ _ _ (c.in_err-push-2.ensures.items ∙ c.in_ok-extend_from_slice-2.ensures.items))));
    })

pub returns : goal.returns
returns c = record {
  written = rw (
    c.in_ok-push-2.ensures.items,
    c.in_ok-extend_from_slice-2.ensures.items,
    c.in_ok-push.ensures.items,
    c.in_ok-write_key.ensures.written,
    c.in_ok-extend_from_slice.ensures.items,
    c.why_name.ensures,
  ) (simp append_assoc);
  kept = tt;
}
