use Rattle.edit_steps.proofs.Texts.{two_texts}
use Rattle.edit_steps.proofs.counting.write_count_line.Goals as goal

pub returns-clause-written : goal.returns-clause-written
returns-clause-written c = two_texts _ _ _ _ _ c.in_ok-write_part.ensures.written c.in_ok-push.ensures.items
