use Rattle.std.proofs.Common.{inl}
use Rattle.osm_outside.proofs.Lines.{took_lines}
use Rattle.osm_outside.proofs.passing.pass_full.Goals as goal

pub returns-in_ok-put-clause-lines : goal.returns-in_ok-put-clause-lines
returns-in_ok-put-clause-lines g c = λ lines. (inl c.clear.ensures.items, took_lines _ _ c.args.piece.now.items lines (rw c.deref.ensures.value at c.in_ok-put.ensures.ok))
