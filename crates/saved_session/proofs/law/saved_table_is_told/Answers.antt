use Rattle.saved_session.proofs.ToldExactly.{told_exactly}
use Rattle.saved_session.proofs.law.saved_table_is_told.Goals as goal

pub returns : goal.returns
returns c = told_exactly
