use Rattle.editor_laws.proofs.KeptConfirming.{answers_keep}
use Rattle.editor_laws.proofs.edits.answers_keep_edits.Goals as goal

pub returns : goal.returns
returns c = λ t a. answers_keep t a.changes a.rest a.ids a.sound a.clear a.planned a.new a.within
