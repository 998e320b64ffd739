use Rattle.std.proofs.Common.{◌≡◌, ◌++◌, take}
use Rattle.edit_steps.specs.Searched.{findings_lines}
use Rattle.edit_steps.proofs.searching.write_findings.Given as goal

abbrev pub invariant-loop-finding : goal.invariant-loop-finding
invariant-loop-finding l = l.out.items ≡ l.fn.out.items ++ findings_lines (take l.finding-index l.findings)
