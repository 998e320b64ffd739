use Rattle.std.proofs.Common.{inr, subst, sym}
use Rattle.osm_outside.specs.Lines.{AreLines}
use Rattle.edit_steps.proofs.LineEnds.{alone_lines, head_ends}
use Rattle.edit_steps.proofs.sending.send_saved_head.Goals as goal

pub returns-clause-lines : goal.returns-clause-lines
returns-clause-lines g c =
    c.put.ensures.lines (subst AreLines (sym c.deref.ensures.value) (alone_lines _ _ _ c.new-text.ensures.items c.in_ok-write_saved_head.ensures.written (inr (head_ends c.args.ds.now.next))))
