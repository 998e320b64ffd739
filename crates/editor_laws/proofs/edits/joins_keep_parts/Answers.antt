use Rattle.editor_laws.proofs.KeptJoins.{join_keeps}
use Rattle.editor_laws.proofs.edits.joins_keep_parts.Goals as goal

pub returns : goal.returns
returns c = join_keeps c.each_tag_is_picked.ensures.value
