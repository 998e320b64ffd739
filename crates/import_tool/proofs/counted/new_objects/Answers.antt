use Rattle.std.proofs.Common.{sym, subst}
use Rattle.tool_api.specs.Import.{AreNewObjects}
use Rattle.import_tool.proofs.Read.{read_new}
use Rattle.import_tool.proofs.counted.new_objects.Goals as goal

pub from_vec-requires : goal.from_vec-requires
from_vec-requires c = subst AreNewObjects (sym c.in_ok-list.ensures) (read_new c.requires.0 c.requires.1 c.args.objects c.requires.2)
