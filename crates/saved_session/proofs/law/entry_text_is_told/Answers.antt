use Rattle.saved_session.proofs.SavedTold.{entry_told}
use Rattle.saved_session.proofs.law.entry_text_is_told.Goals as goal

pub returns : goal.returns
returns c = entry_told
