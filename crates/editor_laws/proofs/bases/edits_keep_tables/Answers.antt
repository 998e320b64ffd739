use Rattle.editor_laws.proofs.SeenSteps.{steps_keep}
use Rattle.editor_laws.proofs.bases.edits_keep_tables.Goals as goal

pub returns : goal.returns
returns c = steps_keep
