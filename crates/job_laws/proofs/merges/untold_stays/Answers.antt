use Rattle.job_laws.proofs.MergeUntold.{there_stays, unnamed_stays}
use Rattle.job_laws.proofs.merges.untold_stays.Goals as goal

pub returns-clause-there : goal.returns-clause-there
returns-clause-there c = there_stays

pub returns-clause-unnamed : goal.returns-clause-unnamed
returns-clause-unnamed c = unnamed_stays
