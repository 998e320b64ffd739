use Rattle.std.proofs.Common.{append_assoc}
use Rattle.edit_steps.proofs.counting.write_states.Goals as goal

pub returns : goal.returns
returns c = record {
  written = rw (c.in_ok-push.ensures.items, c.in_ok-write_part-4.ensures.written, c.in_ok-write_part-3.ensures.written, c.in_ok-write_part-2.ensures.written, c.in_ok-write_part.ensures.written) (simp append_assoc);
  kept = tt;
}
