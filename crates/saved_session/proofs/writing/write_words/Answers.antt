use Rattle.std.proofs.Common.{append_assoc}
use Rattle.saved_session.proofs.writing.write_words.Goals as goal

pub returns : goal.returns
returns c = record {
  written = rw (
    c.in_ok-extend_from_slice-3.ensures.items,
    c.in_ok-push-2.ensures.items,
    c.in_ok-extend_from_slice-2.ensures.items,
    c.in_ok-push.ensures.items,
    c.in_ok-extend_from_slice.ensures.items,
    c.base_text.ensures,
    c.mine_text.ensures,
    c.why_text.ensures,
  ) (simp append_assoc);
  kept = tt;
}
