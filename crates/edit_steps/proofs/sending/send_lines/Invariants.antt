use Rattle.std.proofs.Common.{◌≡◌, ◌++◌, drop, flat_map}
use Rattle.edit_steps.specs.Printed.{lines_of}
use Rattle.osm_outside.specs.Lines.{AreLines, TookLines}
use Rattle.osm_outside.proofs.Along.{Along}
use Rattle.edit_steps.proofs.sending.send_lines.Given as goal

abbrev pub invariant-loop-key : goal.invariant-loop-key
invariant-loop-key g l = record {
  lines : AreLines l.piece.items;
  taken : TookLines (g.K.Sink.taken l.fn.out) → TookLines (g.K.Sink.taken l.out);
  quiet : g.K.Sink.faults l.out ≡ g.K.Sink.faults l.fn.out;
  text : Along (g.K.Sink.taken l.fn.out) (g.K.Sink.taken l.out) (l.piece.items ++ flat_map (lines_of l.lines l.ds) (drop l.key-index l.keys)) (flat_map (lines_of l.lines l.ds) l.keys);
}
