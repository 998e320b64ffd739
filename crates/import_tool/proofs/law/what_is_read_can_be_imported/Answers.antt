use Rattle.import_tool.proofs.Read.{read_new}
use Rattle.import_tool.proofs.law.what_is_read_can_be_imported.Goals as goal

pub returns : goal.returns
returns c = read_new
