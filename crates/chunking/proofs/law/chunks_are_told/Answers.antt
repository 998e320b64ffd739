use Rattle.chunking.proofs.Told.{told_exactly}
use Rattle.chunking.proofs.law.chunks_are_told.Goals as goal

pub returns : goal.returns
returns c = told_exactly
