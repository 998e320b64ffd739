use Rattle.std.proofs.Common.{length}
use Rattle.case_files.proofs.bundle.unescape.Given as goal

abbrev pub decreases-loop-rest : goal.decreases-loop-rest
decreases-loop-rest l = length l.rest
