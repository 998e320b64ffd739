use Rattle.std.proofs.Common.{◌≡◌, ◌++◌, ◌+◌, ◌≤◌, drop}
use Rattle.tool_api.specs.Split.{keyed}
use Rattle.way_split.proofs.parts.keyed.Given as goal

abbrev pub invariant-loop-i : goal.invariant-loop-i
invariant-loop-i l =
    (l.parts.items ++ keyed l.way l.kept l.i l.number (drop l.i l.pieces) ≡ keyed l.way l.kept 0 l.next l.pieces)
    × (1 ≤ l.number) × (l.number ≤ l.next + l.i)
