use Rattle.import_tool.proofs.ByPlace.{by_place}
use Rattle.import_tool.proofs.law.imported_by_place.Goals as goal

pub returns : goal.returns
returns c = by_place
