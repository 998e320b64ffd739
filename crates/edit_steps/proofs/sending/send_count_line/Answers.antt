use Rattle.std.proofs.Common.{inr, subst, sym}
use Rattle.osm_outside.specs.Lines.{AreLines}
use Rattle.osm_outside.proofs.Lines.{at_end}
use Rattle.edit_steps.specs.Counted.{part}
use Rattle.edit_steps.proofs.LineEnds.{alone_lines}
use Rattle.edit_steps.proofs.sending.send_count_line.Goals as goal

pub returns-clause-lines : goal.returns-clause-lines
returns-clause-lines g c =
    c.put.ensures.lines (subst AreLines (sym c.deref.ensures.value) (alone_lines _ _ _ c.new-text.ensures.items c.in_ok-write_count_line.ensures.written (inr (at_end (part c.args.name.now c.args.count)))))
