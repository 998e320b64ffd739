use Rattle.osm_base.proofs.Told.{tells}
use Rattle.tool_api.specs.Staged.{is_candidate}
use Rattle.tool_api.proofs.Cases.{is_candidate_decides}
use Rattle.tool_api.proofs.law.is_candidate_is_told.Goals as goal

pub returns : goal.returns
returns c = λ verdict answer. tells (is_candidate verdict) answer (is_candidate_decides verdict)
