use Rattle.job_laws.proofs.MergeOutcome.{merged_at}
use Rattle.job_laws.proofs.MergeSounds.{merged_sound}
use Rattle.job_laws.proofs.merges.merged_is_sound.Goals as goal

pub returns-clause-sound : goal.returns-clause-sound
returns-clause-sound c = merged_sound

pub returns-clause-entries : goal.returns-clause-entries
returns-clause-entries c = merged_at
