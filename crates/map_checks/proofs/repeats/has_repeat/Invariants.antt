use Rattle.std.proofs.Common.{◌≡◌, ◌≤◌, ◌-◌, drop}
use Rattle.tool_api.specs.Findings.{has_repeat}
use Rattle.map_checks.proofs.repeats.has_repeat.Given as goal

abbrev pub invariant-loop-i : goal.invariant-loop-i
invariant-loop-i l = record {
  begun : 1 ≤ l.i;
  so_far : has_repeat (drop (l.i - 1) l.refs) ≡ has_repeat l.refs;
}
