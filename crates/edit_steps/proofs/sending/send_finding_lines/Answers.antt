use Rattle.std.proofs.Common.{subst, sym}
use Rattle.osm_outside.specs.Lines.{AreLines}
use Rattle.edit_steps.proofs.LineEnds.{alone_lines, findings_are_lines}
use Rattle.edit_steps.proofs.sending.send_finding_lines.Goals as goal

pub returns-clause-lines : goal.returns-clause-lines
returns-clause-lines g c =
    c.put.ensures.lines (subst AreLines (sym c.deref.ensures.value) (alone_lines _ _ _ c.new-text.ensures.items c.in_ok-write_findings.ensures.written (findings_are_lines c.args.findings.now)))
