use Rattle.editor_laws.proofs.KeptMerges.{merged_keeps}
use Rattle.editor_laws.proofs.edits.merges_keep_edits.Goals as goal

pub returns : goal.returns
returns c = merged_keeps
