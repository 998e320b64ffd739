use Rattle.editor_laws.proofs.TextReadable.{readable}
use Rattle.editor_laws.proofs.texts.sound_tables_are_readable.Goals as goal

pub returns : goal.returns
returns c = readable
