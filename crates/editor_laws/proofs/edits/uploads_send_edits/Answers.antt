use Rattle.editor_laws.proofs.KeptSending.{sends, sends_no_more}
use Rattle.editor_laws.proofs.edits.uploads_send_edits.Goals as goal

pub returns-clause-all : goal.returns-clause-all
returns-clause-all c = sends

pub returns-clause-only : goal.returns-clause-only
returns-clause-only c = sends_no_more
