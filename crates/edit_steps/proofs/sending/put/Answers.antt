use Rattle.osm_outside.proofs.Lines.{took_lines}
use Rattle.edit_steps.proofs.sending.put.Goals as goal

pub returns-in-Ok-clause-lines : goal.returns-in-Ok-clause-lines
returns-in-Ok-clause-lines g c = λ lines. record { lines = λ quiet told. took_lines _ _ _ lines c.in-Ok.ensures.ok told }
