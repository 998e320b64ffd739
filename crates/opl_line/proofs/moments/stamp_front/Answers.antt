use Rattle.std.proofs.Common.{Some, sym, ap, ◌∙◌}
use Rattle.opl_text.specs.Time.{time_text}
use Rattle.opl_line.specs.Front.{ended}
use Rattle.opl_line.specs.Line.{is_blank}
use Rattle.opl_line.proofs.Times.{time_before, time_after}
use Rattle.opl_line.proofs.moments.stamp_front.Goals as goal

pub returns-clause-value : goal.returns-clause-value
returns-clause-value c = time_before c.args.bytes.now c.in-Ok-Some.stamp _ (sym (ap time_text c.split_at.ensures.front) ∙ c.in-Ok-Some.ensures.value ∙ ap Some c.in-Ok-Some.field-0-is) (sym (c.in_ok-rest.ensures ∙ ap (ended is_blank) c.split_at.ensures.back))

pub returns-clause-rest : goal.returns-clause-rest
returns-clause-rest c = sym (time_after c.args.bytes.now c.in-Ok-Some.stamp _ (sym (ap time_text c.split_at.ensures.front) ∙ c.in-Ok-Some.ensures.value ∙ ap Some c.in-Ok-Some.field-0-is) (sym (c.in_ok-rest.ensures ∙ ap (ended is_blank) c.split_at.ensures.back)))
