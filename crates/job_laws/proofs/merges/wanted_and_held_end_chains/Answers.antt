use Rattle.job_laws.proofs.MergeChains.{held_ends, wanted_ends}
use Rattle.job_laws.proofs.merges.wanted_and_held_end_chains.Goals as goal

pub returns-clause-wanted : goal.returns-clause-wanted
returns-clause-wanted c = wanted_ends

pub returns-clause-held : goal.returns-clause-held
returns-clause-held c = held_ends
