use Rattle.upload_order.proofs.Steps.{made_told}
use Rattle.upload_order.proofs.laws.made_are_told.Goals as goal

pub returns : goal.returns
returns c = made_told
