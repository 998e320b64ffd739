use Rattle.server_world.proofs.PartRehearsals.{RehearsesPart}
use Rattle.server_world.proofs.rehearsal.rehearse.Given as goal

abbrev pub invariant-loop-change : goal.invariant-loop-change
invariant-loop-change l = RehearsesPart l.ds l.changes l.change-items l.change-index l.accepted l.world l.starts
