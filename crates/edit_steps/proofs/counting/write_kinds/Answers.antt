use Rattle.chunking.proofs.Texts.{three_texts}
use Rattle.edit_steps.proofs.counting.write_kinds.Goals as goal

pub returns-clause-written : goal.returns-clause-written
returns-clause-written c = three_texts _ _ _ _ _ _ _ c.in_ok-write_part.ensures.written c.in_ok-write_part-2.ensures.written c.in_ok-write_part-3.ensures.written
