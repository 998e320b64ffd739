use Rattle.upload_order.proofs.Steps.{ups_told}
use Rattle.upload_order.proofs.laws.ups_are_told.Goals as goal

pub returns : goal.returns
returns c = ups_told
