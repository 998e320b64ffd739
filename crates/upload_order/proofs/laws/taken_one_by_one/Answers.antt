use Rattle.upload_order.specs.World.{IsEdited}
use Rattle.upload_order.proofs.Fronts.{fronts_run, fronts_accept}
use Rattle.upload_order.proofs.laws.taken_one_by_one.Goals as goal

pub returns-clause-runs : goal.returns-clause-runs
returns-clause-runs c = λ t w0 w cs. fronts_run t (IsEdited t w0) w cs

pub returns-clause-taken : goal.returns-clause-taken
returns-clause-taken c = λ t w0 w cs. fronts_accept t (IsEdited t w0) w cs
