use Rattle.saved_session.proofs.EntryTold.{told_exactly}
use Rattle.saved_session.proofs.law.entry_is_told.Goals as goal

pub returns : goal.returns
returns c = told_exactly
