use Rattle.editor_laws.proofs.KeptAnswers.{confirm_keeps}
use Rattle.editor_laws.proofs.edits.confirmations_keep_edits.Goals as goal

pub returns : goal.returns
returns c = confirm_keeps
