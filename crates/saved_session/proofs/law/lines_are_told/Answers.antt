use Rattle.saved_session.proofs.SavedTold.{lines_told}
use Rattle.saved_session.proofs.law.lines_are_told.Goals as goal

pub returns : goal.returns
returns c = lines_told
