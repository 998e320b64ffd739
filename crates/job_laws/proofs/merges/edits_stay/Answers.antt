use Rattle.std.proofs.Common.{Some, None, refl}
use Rattle.job_laws.proofs.MergeEdits.{change_stays, deletion_stays}
use Rattle.job_laws.proofs.merges.edits_stay.Goals as goal

pub returns-clause-changes : goal.returns-clause-changes
returns-clause-changes c = λ t m sound k base mine conflict was. change_stays t m k base (Some mine) conflict sound was.there was.changed refl

pub returns-clause-deletions : goal.returns-clause-deletions
returns-clause-deletions c = λ t m sound k base conflict was. deletion_stays t m k base None conflict sound was.there was.changed refl
