use Rattle.editor_laws.proofs.TextSteps.{steps_keep}
use Rattle.editor_laws.proofs.texts.edits_keep_texts.Goals as goal

pub returns : goal.returns
returns c = steps_keep
