use Rattle.opl_line.proofs.Fronts.{Reads}
use Rattle.std.proofs.Common.{length}
use Rattle.opl_line.proofs.front.digits_front.Given as goal

abbrev pub invariant-loop-rest : goal.invariant-loop-rest
invariant-loop-rest l = Reads l.most l.left l.value l.bytes l.rest

abbrev pub decreases-loop-rest : goal.decreases-loop-rest
decreases-loop-rest l = length l.rest
