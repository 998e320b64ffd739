use Rattle.upload_order.specs.World.{IsEdited}
use Rattle.upload_order.proofs.Runs.{accepts_soundly}
use Rattle.upload_order.proofs.Fronts.{runs_sound}
use Rattle.upload_order.proofs.laws.servers_stay_sound.Goals as goal

pub returns-clause-run : goal.returns-clause-run
returns-clause-run c = runs_sound

pub returns-clause-accepted : goal.returns-clause-accepted
returns-clause-accepted c = λ t w0 w cs sound accepts. accepts_soundly t w cs (IsEdited t w0) sound accepts
