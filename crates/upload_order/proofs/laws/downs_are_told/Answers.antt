use Rattle.upload_order.proofs.Steps.{downs_told}
use Rattle.upload_order.proofs.laws.downs_are_told.Goals as goal

pub returns : goal.returns
returns c = downs_told
