use Rattle.std.proofs.Common.{◌≡◌, ℕ, ◌+◌, ◌≤◌, ◌++◌, List, length, vec_len}
use Rattle.opl_file.specs.Feeding.{lines_read_on, lines_lend_on}
use Rattle.opl_file.proofs.lines.Lines.take.Given as goal

abbrev pub invariant-loop-rest : goal.invariant-loop-rest
invariant-loop-rest l = record {
  reads : (more : List ℕ) → lines_read_on l.self (l.rest ++ more) ≡ lines_read_on l.fn.self (l.fn.piece ++ more);
  lends : (more : List ℕ) → lines_lend_on l.self (l.rest ++ more) ≡ lines_lend_on l.fn.self (l.fn.piece ++ more);
  room : l.self.count + vec_len l.self.unfinished + length l.rest ≤ l.fn.self.count + vec_len l.fn.self.unfinished + length l.fn.piece;
}

abbrev pub decreases-loop-rest : goal.decreases-loop-rest
decreases-loop-rest l = length l.rest
