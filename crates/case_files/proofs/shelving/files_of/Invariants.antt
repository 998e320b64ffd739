use Rattle.std.proofs.Common.{take}
use Rattle.case_files.specs.Named.{LacksUnnamed}
use Rattle.case_files.proofs.shelving.files_of.Given as goal

abbrev pub invariant-loop-i : goal.invariant-loop-i
invariant-loop-i l = LacksUnnamed l.files (take l.i l.named)
