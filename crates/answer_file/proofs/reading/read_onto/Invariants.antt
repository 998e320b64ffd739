use Rattle.std.proofs.Common.{◌≡◌, ◌+◌, ◌≤◌, length}
use Rattle.opl_file.specs.Cut.{lines_of}
use Rattle.answer_file.specs.Answers.{answers_from, answers_of}
use Rattle.answer_file.proofs.SoFar.{onto_front}
use Rattle.answer_file.proofs.reading.read_onto.Given as goal

abbrev pub invariant-loop-rest : goal.invariant-loop-rest
invariant-loop-rest l = record {
  bound : l.count + length l.rest ≤ length l.bytes;
  so_far : answers_of l.bytes ≡ onto_front l.answers.items l.lines.items (answers_from (l.count + 1) (lines_of l.rest));
}

abbrev pub decreases-loop-rest : goal.decreases-loop-rest
decreases-loop-rest l = length l.rest
