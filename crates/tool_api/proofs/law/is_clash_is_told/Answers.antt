use Rattle.osm_base.proofs.Told.{tells}
use Rattle.tool_api.specs.Staged.{is_clash}
use Rattle.tool_api.proofs.Cases.{is_clash_decides}
use Rattle.tool_api.proofs.law.is_clash_is_told.Goals as goal

pub returns : goal.returns
returns c = λ verdict answer. tells (is_clash verdict) answer (is_clash_decides verdict)
