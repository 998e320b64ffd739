use Rattle.saved_session.proofs.SavedTold.{text_told}
use Rattle.saved_session.proofs.law.text_is_told.Goals as goal

pub returns : goal.returns
returns c = text_told
